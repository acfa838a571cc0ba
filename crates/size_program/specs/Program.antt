-- The types of nodes, as the definition speaks of them.
use Rattle.std.specs.Prelude.{ℕ, List, get_or}
use Rattle.fut_types.specs.Types.{Sub}
use Rattle.size_arena.specs.declared.types.TypeTree.{TypeTree}
use Rattle.size_arena.specs.declared.types.TypeTree.TheVariants as type
use Rattle.size_arena.specs.Trees.{type_of}

-- the types of nodes by their numbers
abbrev pub sub_of : List TypeTree → Sub
sub_of ts n = type_of (get_or ts n (type.Var 0))
