use Rattle.std.proofs.Common.{◌∙◌}
use Rattle.form_parts.proofs.PartForms.{rows_there}
use Rattle.form_parts.proofs.parts.rows_form.Goals as goal

pub returns-in_ok-row-in-Array : goal.returns-in_ok-row-in-Array
returns-in_ok-row-in-Array c = rows_there _ _ _ _ c.in-Array.is (c.in_ok-row-in-Array.ensures ∙ c.get.ensures)
