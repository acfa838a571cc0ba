use Rattle.std.proofs.Common.{◌≡◌, ◌≤◌, ◌-◌, ℕ, length, false}
use Rattle.type_answers.specs.Left.{seen_at}
use Rattle.type_answers.proofs.left.unseen.Given as goal

abbrev pub invariant-loop-at : goal.invariant-loop-at
invariant-loop-at l = record {
  long : length l.seen ≡ l.at;
  none : (i : ℕ) → seen_at l.seen i ≡ false;
  within : l.at ≤ l.count;
}

abbrev pub decreases-loop-at : goal.decreases-loop-at
decreases-loop-at l = l.count - l.at
