use Rattle.std.proofs.Common.{◌≡◌, ◌+◌, drop}
use Rattle.value_text.specs.Gaps.{gap_at, gap_from}
use Rattle.value_text.proofs.gaps.gap.Given as goal

abbrev pub invariant-loop-at : goal.invariant-loop-at
invariant-loop-at l = l.at + gap_from l.in_comment (drop l.at l.text) ≡ gap_at l.text
