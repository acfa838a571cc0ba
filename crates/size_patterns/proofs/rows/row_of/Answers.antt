use Rattle.size_patterns.proofs.RowForms.{built_row}
use Rattle.size_patterns.proofs.rows.row_of.Goals as goal

pub returns-in-Built : goal.returns-in-Built
returns-in-Built c = built_row c.args.tree.now c.in-Built.height (record { head = c.in-Built.head; parts = c.in-Built.parts }) c.in-Built.is
