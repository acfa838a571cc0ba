use Rattle.std.proofs.Common.{◌≡◌, drop}
use Rattle.fut_sizes.specs.Scopes.{instances}
use Rattle.size_arena.specs.Trees.{size_of, sizes_of, type_of}
use Rattle.size_arena.proofs.Parts.{before}
use Rattle.size_making.specs.Uses.{chooses}
use Rattle.size_making.proofs.uses.+instance.Given as goal

abbrev pub invariant-instances-loop-part : goal.invariant-instances-loop-part
invariant-instances-loop-part l = instances l.node (chooses (size_of l.whole) (type_of l.ty)) (sizes_of l.parts) ≡ before l.made.items (instances l.node (chooses (size_of l.whole) (type_of l.ty)) (sizes_of (drop l.part-index l.parts)))
