-- A lambda of which something is wanted, up to its body and behind it.
use Rattle.std.specs.Prelude.{◌≡◌, ℕ, ◌+◌, List, [], Option}
use Rattle.fut_scalar.specs.declared.place.BindId.{BindId}
use Rattle.fut_flat.specs.declared.prim.Ref.{Ref}
use Rattle.fut_flat.specs.Terms.{Patterns}
use Rattle.fut_flat.specs.Numbers.{all_pattern_numbers}
use Rattle.fut_types.specs.Types.{Sub}
use Rattle.fut_typing.specs.Names.{Names}
use Rattle.sized_types.specs.Sizes.{Size}
use Rattle.fut_sizes.specs.Applications.{Want, Met}
use Rattle.fut_sizes.specs.Functions.{function_size, unchosen}
use Rattle.fut_sizes.specs.Matching as matching
use Rattle.fut_sizes.specs.Scopes.{Scope}
use Rattle.fut_sizes.specs.Sizing.{Entered, wanted_size, all_part_names, all_entered, leaving_function, none_left, parameters_noted, matched}
use Rattle.fut_sizes.specs.Steps.{Step, give, ask, and_then, note}
use Rattle.size_functions.specs.Takings.{takings_of}
use Rattle.size_program.specs.Tables.{In_scope}
use Rattle.size_slots.specs.declared.slots.Found.{Found}
use Rattle.size_slots.specs.Held.{Holds}
use Rattle.size_walk.specs.declared.lambdas.Begun.{Begun}

module _ (N : Names) (types : Sub) (ps : Patterns Ref BindId) (bs : List ℕ) (lo : ℕ) where
  -- its parameters are entered, choose the size names of its head, and are noted
  abbrev pub lambda_begun : Option Want → Scope → matching.Found → Step Entered
  lambda_begun w scope σ =
      and_then (ask (all_entered N types lo ps (1 + lo) (record { scope = scope; parameters = []; wanted = wanted_size w; found = σ }))) (λ E.
      and_then (ask (none_left N types (1 + lo + all_pattern_numbers ps) (unchosen bs E.parameters))) (λ z.
      and_then (parameters_noted N types E.parameters) (λ y. give E)))

  -- its body, which ends before a number, has this sized type
  abbrev pub lambda_ended : ℕ → Option Want → Entered → Size → Step Met
  lambda_ended end w E body =
      and_then (ask (leaving_function lo (all_part_names ps) E.parameters body)) (λ r.
      and_then (note lo (function_size bs lo end E.parameters r)) (λ own. ask (matched N types lo w own E.found)))

-- what code has of parameters that are entered
pub record Begun_so (table : Found) (b : Begun) (E : Entered) : Type 0 where
  pub scope : In_scope b.names.now E.scope
  pub parameters : E.parameters ≡ takings_of b.parameters.now
  pub found : Holds table E.found
