use Rattle.fut_eval.proofs.Slotting.{words_length, rows_length}
use Rattle.fut_eval.proofs.slots.Slot.length.Goals as goal

pub returns-in-Words : goal.returns-in-Words
returns-in-Words c = words_length _ _ c.self.view_is c.self.invariant _ _ _ c.in-Words.is

pub returns-in-Rows : goal.returns-in-Rows
returns-in-Rows c = rows_length _ _ c.self.view_is c.self.invariant _ _ _ _ c.in-Rows.is
