use Rattle.elab_nodes.proofs.Parts.{left_first_made, right_first_made}
use Rattle.elab_nodes.proofs.rows.in_order.Goals as goal

pub returns-then-left_first : goal.returns-then-left_first
returns-then-left_first c = left_first_made _ _ _ _ _ _ c.if-left_first.true c.both_applied.ensures

pub returns-else-left_first : goal.returns-else-left_first
returns-else-left_first c = right_first_made _ _ _ _ _ _ c.if-left_first.false c.both_applied-else-left_first.ensures
