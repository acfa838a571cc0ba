use Rattle.size_arena.specs.Trees.{size_of}
use Rattle.size_forms.proofs.CloseForms.{Closed_to}
use Rattle.size_forms.proofs.closing.close_outer.Given as goal

abbrev pub invariant-loop-left : goal.invariant-loop-left
invariant-loop-left l = Closed_to l.endings (size_of l.size) l.fn.tables l.left l.so_far.size l.tables

abbrev pub decreases-loop-left : goal.decreases-loop-left
decreases-loop-left l = l.left
