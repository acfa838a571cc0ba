-- What is bound, and what has been entered.
use Rattle.std.specs.Prelude.{◌≡◌, ℕ, ◌+◌, List, [], ◌∷◌, ◌++◌, length}
use Rattle.std.specs.Borrow.{Bor}
use Rattle.fut_scalar.specs.declared.place.BindId.{BindId}
use Rattle.fut_flat.proofs.ErasedForms.{turns_of}
use Rattle.fut_flat.specs.Numbers.{turn_numbers}
use Rattle.fut_sizes.specs.Functions as functions
use Rattle.fut_sizes.specs.Matching as matching
use Rattle.fut_sizes.specs.Matching.{counted, nothing_found}
use Rattle.fut_sizes.specs.Scopes.{Scope, Taken, with_size_names}
use Rattle.fut_sizes.specs.Sizing as sizing
use Rattle.size_functions.specs.Takings.{taking_of, takings_of}
use Rattle.size_program.specs.declared.maps.NumberMap.{NumberMap}
use Rattle.size_program.specs.Tables.{In_scope}
use Rattle.size_slots.specs.declared.slots.Found.{Found}
use Rattle.size_slots.specs.Held.{Holds}
use Rattle.size_written.specs.Answers.{held}
use Rattle.size_patterns.specs.declared.binding.Bindings.{Bindings}
use Rattle.size_patterns.specs.declared.binding.Unmet.{Unmet}
use Rattle.size_patterns.specs.declared.binding.Unmet.TheVariants as unmet
use Rattle.size_patterns.specs.declared.entering.Entered.{Entered}
use Rattle.size_patterns.specs.declared.entering.Entry.{Entry}

-- a map that knows what a scope does
abbrev pub Tells_scope : Bor NumberMap → Scope → Type 0
Tells_scope names scope = In_scope names.now scope

-- what is known behind a pattern, and what its size names took
pub record Bound_so (b : Bindings) (k : Taken) : Type 0 where
  pub scope : In_scope b.names.now k.scope
  pub found : Holds b.found k.found

-- the node at which a size name that no level has is refused
abbrev pub unmet_at : Unmet → ℕ
unmet_at (unmet.At n) = n
unmet_at (unmet.Behind at f) = at + turn_numbers (turns_of f.now)

-- before it takes anything its size names are bound, and their slots are open
abbrev pub unbound : List BindId → Scope → Taken
unbound sizes scope = record { scope = with_size_names sizes scope; found = counted (length sizes) nothing_found }

-- the same while it is taken, in a table of its own
pub record Taken_in (new : Found) (names : Bor NumberMap) (k : Taken) : Type 0 where
  pub scope : In_scope names.now k.scope
  pub found : Holds new k.found

-- the parameters of a lambda have been entered; the table has what was found
pub record Entered_so (new : Found) (e : Entered) (E : sizing.Entered) : Type 0 where
  pub scope : In_scope e.names.now E.scope
  pub parameters : E.parameters ≡ takings_of e.parameters.now
  pub wanted : E.wanted ≡ held e.wanted
  pub found : Holds new E.found

-- one more than these has been entered, and what is found is so
pub record Entered_one (is_found : matching.Found → Type 0) (before : List functions.Taking) (e : Entry) (E : sizing.Entered) : Type 0 where
  pub scope : In_scope e.names.now E.scope
  pub parameters : E.parameters ≡ before ++ taking_of e.taking ∷ []
  pub wanted : E.wanted ≡ held e.wanted
  pub found : is_found E.found
