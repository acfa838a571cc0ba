use Rattle.std.proofs.Common.{◌≡◌, drop, map}
use Rattle.fut_flat.specs.Erased.{term_of, terms}
use Rattle.fut_sizes.specs.Operations.{elements_agree}
use Rattle.size_arena.specs.Trees.{size_of, sizes_of}
use Rattle.size_operations.proofs.arrays.elements_agree.Given as goal

abbrev pub invariant-loop-i : goal.invariant-loop-i
invariant-loop-i l = elements_agree (size_of l.first) (terms (map term_of l.parts)) l.at (sizes_of l.sizes) ≡ elements_agree (size_of l.first) (terms (map term_of (drop l.i l.parts))) l.node (sizes_of (drop l.i l.sizes))
