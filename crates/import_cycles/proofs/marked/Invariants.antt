-- What is marked, what is still to be looked at, and how much may still come.
use Rattle.std.proofs.Common.{◌+◌, length}
use Rattle.import_cycles.proofs.Marking.{Marks, edges_left}
use Rattle.import_cycles.proofs.marked.Given as goal

abbrev pub invariant-loop-next : goal.invariant-loop-next
invariant-loop-next l = Marks l.imports l.from l.seen l.pending

abbrev pub decreases-loop-next : goal.decreases-loop-next
decreases-loop-next l = edges_left l.imports l.seen + length l.pending
