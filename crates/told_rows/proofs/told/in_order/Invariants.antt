use Rattle.std.proofs.Common.{◌≤◌, length}
use Rattle.told_rows.proofs.OrderForms.{Listed}
use Rattle.told_rows.proofs.told.in_order.Given as goal

abbrev pub invariant-loop-at : goal.invariant-loop-at
invariant-loop-at l = (l.at ≤ length l.parts) × Listed l.names l.parts l.fields.items l.at

abbrev pub decreases-loop-at : goal.decreases-loop-at
decreases-loop-at l = l.at
