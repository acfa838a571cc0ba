use Rattle.std.proofs.Common.{◌≡◌, drop}
use Rattle.fut_sizes.specs.Scopes.{type_in}
use Rattle.size_arena.specs.Trees.{variable_of, sizes_of, tys_of}
use Rattle.size_making.proofs.uses.+there.Given as goal

abbrev pub invariant-type_in-loop-i : goal.invariant-type_in-loop-i
invariant-type_in-loop-i l = type_in (variable_of l.variable) (sizes_of l.parts) (tys_of l.types) ≡ type_in (variable_of l.variable) (sizes_of (drop l.i l.parts)) (tys_of (drop l.i l.types))
