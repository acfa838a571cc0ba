use Rattle.std.proofs.Common.{◌≡◌, ◌≤◌, ◌-◌, ◌++◌, length, drop}
use Rattle.unify.specs.Reading.{known_from, binds_from}
use Rattle.unify.proofs.read.read_back.Given as goal

abbrev pub invariant-loop-at : goal.invariant-loop-at
invariant-loop-at l = record {
  known : l.subst.known ++ known_from l.entries (drop l.at l.nodes) ≡ known_from l.entries l.nodes;
  binds : l.subst.binds ++ binds_from l.at (drop l.at l.nodes) ≡ binds_from 0 l.nodes;
  within : l.at ≤ length l.nodes;
}

abbrev pub decreases-loop-at : goal.decreases-loop-at
decreases-loop-at l = length l.nodes - l.at
