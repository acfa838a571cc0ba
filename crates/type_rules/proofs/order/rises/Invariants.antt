use Rattle.std.proofs.Common.{ℕ, ◌≤◌, ◌<◌, ◌+◌, ◌-◌, length, slice_index_or}
use Rattle.type_rules.proofs.order.rises.Given as goal

abbrev pub invariant-loop-at : goal.invariant-loop-at
invariant-loop-at l = record {
  so_far : (k : ℕ) → k + 1 < l.at → slice_index_or l.row k 0 < slice_index_or l.row (k + 1) 0;
  some : 1 ≤ l.at;
}

abbrev pub decreases-loop-at : goal.decreases-loop-at
decreases-loop-at l = length l.row - l.at
