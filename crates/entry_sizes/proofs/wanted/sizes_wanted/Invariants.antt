use Rattle.std.proofs.Common.{◌≡◌, []}
use Rattle.size_arena.specs.Trees.{size_of}
use Rattle.entry_sizes.specs.Wanted.{sizes_wanted}
use Rattle.entry_sizes.proofs.wanted.sizes_wanted.Given as goal

abbrev pub invariant-loop-left : goal.invariant-loop-left
invariant-loop-left l = sizes_wanted l.frames l.sizes l.left (size_of l.cursor.tree.now) ≡ sizes_wanted l.frames [] l.levels (size_of l.initial.cursor.tree.now)

abbrev pub decreases-loop-left : goal.decreases-loop-left
decreases-loop-left l = l.left
