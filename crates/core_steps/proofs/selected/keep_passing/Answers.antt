use Rattle.std.proofs.Common.{◌-◌, ap, subst, take, drop, length}
use Rattle.core_code.specs.Registers.{state}
use Rattle.core_steps.specs.Choosing.{Rows_chosen}
use Rattle.core_steps.proofs.Places.{keep_done}
use Rattle.core_steps.proofs.selected.keep_passing.Goals as goal

pub returns-clause-told : goal.returns-clause-told
returns-clause-told c =
    keep_done c.args.atoms.now c.args.mark (state c.args.arrays.now c.args.table.now c.args.stack.now.items) (state c.choose_rows.new.arrays c.args.table.now c.choose_rows.new.stack.items) _ c.in_ok-rows.rows c.truncate.new.self.items c.choose_rows.result
    (ap (λ z. take (length z - c.args.mark) (drop c.args.mark z)) c.deref.ensures.value) c.in_ok-rows.ensures c.truncate.ensures.items
    (subst (λ z. Rows_chosen c.args.atoms.now z (state c.args.arrays.now c.args.table.now c.truncate.new.self.items) (state c.choose_rows.new.arrays c.args.table.now c.choose_rows.new.stack.items) c.choose_rows.result) c.as_slice.ensures c.choose_rows.ensures.told)
