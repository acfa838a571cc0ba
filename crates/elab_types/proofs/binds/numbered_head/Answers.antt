use Rattle.elab_types.proofs.BindLaws.{head_size_numbers, head_stops, head_var_numbers}
use Rattle.elab_types.proofs.binds.numbered_head.Goals as goal

pub returns-in-Ok : goal.returns-in-Ok
returns-in-Ok c = head_size_numbers _ _ _ _ _ _ _ _ c.in-Size.is c.in-Ok.ensures.numbers c.in-Ok.ensures.entry

pub returns-in-Err : goal.returns-in-Err
returns-in-Err c = head_stops _ _ _ _ _ _ _ c.in-Err.ensures.numbers

pub returns-in-Ok-numbered_entry : goal.returns-in-Ok-numbered_entry
returns-in-Ok-numbered_entry c = head_var_numbers _ _ _ _ _ _ _ _ _ c.in-Var.is c.in-Ok-numbered_entry.ensures.numbers c.in-Ok-numbered_entry.ensures.entry

pub returns-in-Err-numbered_entry : goal.returns-in-Err-numbered_entry
returns-in-Err-numbered_entry c = head_stops _ _ _ _ _ _ _ c.in-Err-numbered_entry.ensures.numbers
