use Rattle.std.proofs.Common.{◌≤◌, ◌-◌, length}
use Rattle.fut_eval.proofs.last_uses.Uses.is_hidden.Given as goal

abbrev pub invariant-loop-low : goal.invariant-loop-low
invariant-loop-low l = l.high ≤ length l.hidden

abbrev pub decreases-loop-low : goal.decreases-loop-low
decreases-loop-low l = l.high - l.low
