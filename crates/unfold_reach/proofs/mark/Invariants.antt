use Rattle.std.proofs.Common.{◌≡◌, ◌≤◌, length, Option}
use Rattle.fut_meaning.specs.Found.{Sizing}
use Rattle.told_rows.specs.Tables.{Told_by}
use Rattle.unfold_reach.proofs.Marking.{Marked}
use Rattle.unfold_reach.proofs.mark.Given as goal

abbrev pub invariant-loop-at : goal.invariant-loop-at
invariant-loop-at l = ((z : Option Sizing) → Told_by l.fn.sizes z → Marked z l.fn.entry.0 l.definitions l.named l.flags l.at) × (l.at ≤ length l.definitions) × (length l.flags ≡ length l.definitions)

abbrev pub decreases-loop-at : goal.decreases-loop-at
decreases-loop-at l = l.at
