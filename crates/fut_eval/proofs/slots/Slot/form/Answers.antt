use Rattle.std.proofs.Common.{refl}
use Rattle.array_data.specs.declared.form.Form.TheVariants as form
use Rattle.fut_eval.proofs.Slotting.{words_form, rows_form}
use Rattle.fut_eval.proofs.slots.Slot.form.Goals as goal

pub returns-in-Words : goal.returns-in-Words
returns-in-Words c = words_form _ _ c.self.view_is c.self.invariant _ _ _ (form.Scalar c.in-Words.ty) c.array_form.result c.in-Words.is refl c.array_form.ensures

pub returns-in_ok-row-in-Rows : goal.returns-in_ok-row-in-Rows
returns-in_ok-row-in-Rows c = rows_form _ _ c.self.view_is c.self.invariant _ _ _ _ _ c.in-Rows.is c.in_ok-row-in-Rows.ensures
