use Rattle.std.proofs.Common.{◌≡◌, length}
use Rattle.size_arena.specs.Trees.{size_of}
use Rattle.entry_sizes.specs.Wanted.{wanted_of, wanted_on}
use Rattle.entry_sizes.proofs.wanted.wanted_arguments.Given as goal

abbrev pub invariant-loop-left : goal.invariant-loop-left
invariant-loop-left l = wanted_on l.wanted l.frames l.first l.left (size_of l.cursor.tree.now) ≡ wanted_of l.params (size_of l.initial.cursor.tree.now)

abbrev pub decreases-loop-left : goal.decreases-loop-left
decreases-loop-left l = length l.left
