-- What the walk answers for a term, in the words of the definition.
use Rattle.std.specs.Prelude.{◌≡◌, ℕ, ◌+◌, List, Option}
use Rattle.fut_flat.specs.Erased.{FlatTerm}
use Rattle.fut_flat.specs.Numbers.{numbers, all_numbers}
use Rattle.fut_flat.specs.Terms.{Terms}
use Rattle.fut_flat.specs.declared.prim.Ref.{Ref}
use Rattle.fut_scalar.specs.declared.place.BindId.{BindId}
use Rattle.fut_aliases.specs.declared.refusals.Named.{Named}
use Rattle.fut_aliases.specs.Calls as definition
use Rattle.fut_aliases.specs.Capturing.{called, name_in, some_name}
use Rattle.uniqueness.specs.declared.held.Here.{Here}
use Rattle.uniqueness.specs.Held.{held_of, helds_of, here_of}
use Rattle.alias_program.specs.Parts.{part_of}
use Rattle.alias_scopes.specs.Scopes.{scope_of}
use Rattle.alias_forms.specs.declared.seen.Found.{Found}
use Rattle.alias_forms.specs.declared.seen.FoundParts.{FoundParts}
use Rattle.alias_forms.specs.declared.seen.Inside.{Inside}
use Rattle.alias_forms.specs.declared.seen.Seen.{Seen}

abbrev pub part_seen : Seen → definition.Part
part_seen s = part_of s.part

abbrev pub held_found : Found → definition.Held
held_found f = held_of f.held

abbrev pub parts_found : FoundParts → List definition.Held
parts_found f = helds_of f.parts.now

abbrev pub inside_of : Here → Inside → definition.Here
inside_of h i = here_of (scope_of i.scope.now) h

-- how a refusal calls a term, and the first name in it
pub record Names_in (e : FlatTerm) (f : Named) (name : Option Named) : Type 0 where
  pub called_so : f ≡ called e
  pub first_so : name ≡ some_name e

pub record Ends (f : Named) (name : Option Named) (next : ℕ) (s : Seen) : Type 0 where
  pub called_so : s.called ≡ f
  pub first_so : s.first_name ≡ name
  pub behind : s.after ≡ next

-- what is told of a term beside its part: how it is called, its first name, and the number behind its numbers
pub record SeenEnds (e : FlatTerm) (at : ℕ) (s : Seen) : Type 0 where
  pub named : Names_in e s.called s.first_name
  pub next : s.after ≡ at + numbers e

pub record FoundEnds (e : FlatTerm) (at : ℕ) (f : Found) : Type 0 where
  pub named : Names_in e f.called f.first_name
  pub next : f.after ≡ at + numbers e

pub record AllEnd (es : Terms Ref BindId) (at : ℕ) (f : FoundParts) : Type 0 where
  pub first : f.first_name ≡ name_in es
  pub next : f.after ≡ at + all_numbers es

pub record InsideEnds (name : Option Named) (next : ℕ) (i : Inside) : Type 0 where
  pub first : i.first_name ≡ name
  pub behind : i.after ≡ next
