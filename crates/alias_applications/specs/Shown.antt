-- Terms that are applied, in the words of the definition.
use Rattle.std.specs.Prelude.{◌≡◌, List, Option, Some, None}
use Rattle.std.specs.Borrow.{Bor}
use Rattle.fut_flat.specs.Erased.{FlatTerm}
use Rattle.fut_aliases.specs.Calls as definition
use Rattle.fut_aliases.specs.Capturing.{called, first_name}
use Rattle.fut_aliases.specs.Stars.{Stars}
use Rattle.fut_aliases.specs.Values.{Value}
use Rattle.alias_values.specs.declared.trees.StarTree.{StarTree}
use Rattle.alias_values.specs.declared.trees.ValueTree.{ValueTree}
use Rattle.alias_values.specs.Trees.{stars_of, type_of, value_of}
use Rattle.uniqueness.specs.declared.held.Held.{Held}
use Rattle.uniqueness.specs.Held.{held_of, helds_of}
use Rattle.alias_program.specs.declared.parts.Part.{Part}
use Rattle.alias_applications.specs.declared.parts.Told.{Told}

abbrev pub shown_value : Bor ValueTree → Value
shown_value v = value_of v.now

-- what is wanted of a function, if something is
abbrev pub wanted_of : Option (Bor StarTree) → Option Stars
wanted_of (Some u) = Some (stars_of u.now)
wanted_of None = None

-- a part with these arguments in place of its own
abbrev pub part_with : Part → List Held → definition.Part
part_with p xs = record { head = held_of p.head; name = p.name; type = type_of p.ty.now; arguments = helds_of xs }

-- what is told of a term is how a refusal calls it, and the first name in it
pub record NamedAs (e : FlatTerm) (told : Told) : Type 0 where
  pub called_so : told.called ≡ called e
  pub first_so : told.first_name ≡ first_name e
