-- The types of nodes, as the definitions speak of them.
use Rattle.std.specs.Prelude.{ℕ, List, get_or}
use Rattle.fut_types.specs.Types.{Sub}
use Rattle.alias_values.specs.declared.trees.TypeTree.{TypeTree}
use Rattle.alias_values.specs.declared.trees.TypeTree.TheVariants as type
use Rattle.alias_values.specs.Trees.{type_of}

-- the types of nodes by their numbers
abbrev pub sub_of : List TypeTree → Sub
sub_of ts n = type_of (get_or ts n (type.Var 0))
