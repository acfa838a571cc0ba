use Rattle.std.proofs.Common.{◌≤◌}
use Rattle.unfold_reach.proofs.Marking.{Below_so_far}
use Rattle.unfold_reach.proofs.above.Given as goal

abbrev pub invariant-loop-definition : goal.invariant-loop-definition
invariant-loop-definition l = (Below_so_far l.count l.definitions l.definition-index) × (l.count ≤ 4294967296)
