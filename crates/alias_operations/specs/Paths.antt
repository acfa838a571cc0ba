-- Paths of fields.
use Rattle.std.specs.Prelude.{Bool, true, false, List, [], Option, Some}
use Rattle.fut_ast.specs.Sorts.{Text}
use Rattle.fut_scalar.specs.declared.place.BindId.{BindId}
use Rattle.fut_types.specs.Types.{Ty}
use Rattle.fut_typing.specs.Names.{Names}
use Rattle.fut_aliases.specs.Calls.{Held, Part}
use Rattle.fut_aliases.specs.Values.{part_named}
use Rattle.fut_aliases.specs.declared.refusals.Named.TheVariants.{AFunction}

abbrev pub is_path_of : Option BindId → List Held → Bool
is_path_of (Some b) [] = true
is_path_of name arguments = false

-- a name, or a path of fields from one, that is not applied
abbrev pub is_path : Part → Bool
is_path p = is_path_of p.name p.arguments

-- the path with one field more, of a type
abbrev pub field_of_path : Names → Text → Ty → Part → Part
field_of_path N f t p = record {
  head = record { node = p.head.node; called = AFunction; first_name = p.head.first_name; value = part_named N f p.head.value; losses = p.head.losses };
  name = p.name;
  type = t;
  arguments = p.arguments;
}
