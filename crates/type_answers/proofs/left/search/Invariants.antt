use Rattle.std.proofs.Common.{◌+◌, length}
use Rattle.type_answers.proofs.LeftLaws.{Searching, todo}
use Rattle.type_answers.proofs.left.search.Given as goal

abbrev pub invariant-loop-at : goal.invariant-loop-at
invariant-loop-at l = Searching l.nodes l.fn.seen l.seen l.stack l.start

abbrev pub decreases-loop-at : goal.decreases-loop-at
decreases-loop-at l = length l.stack + todo l.nodes l.seen
