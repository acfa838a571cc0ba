use Rattle.std.proofs.Common.{◌-◌, ap, subst, take, drop, length, Ok, refl}
use Rattle.core_code.specs.Registers.{state}
use Rattle.core_steps.specs.Choosing.{Rows_chosen}
use Rattle.core_steps.proofs.Parting.{part_done}
use Rattle.core_steps.proofs.selected.part_passing.Goals as goal

pub returns-clause-told : goal.returns-clause-told
returns-clause-told c =
    part_done c.args.atoms.now c.args.mark (state c.args.arrays.now c.args.table.now c.args.stack.now.items) (state c.choose_rows-2.new.arrays c.args.table.now c.choose_rows-2.new.stack.items) _ c.in_ok-passed.passed c.in_ok-others.others c.truncate.new.self.items
    (state c.choose_rows.new.arrays c.args.table.now c.choose_rows.new.stack.items) c.choose_rows-2.result
    (ap (λ z. take (length z - c.args.mark) (drop c.args.mark z)) c.deref.ensures.value) c.in_ok-passed.ensures c.in_ok-others.ensures c.truncate.ensures.items
    (subst (λ z. Rows_chosen c.args.atoms.now z (state c.args.arrays.now c.args.table.now c.truncate.new.self.items) (state c.choose_rows.new.arrays c.args.table.now c.choose_rows.new.stack.items) (Ok tt)) c.as_slice.ensures c.in_ok-choose_rows.ensures.told) refl
    (subst (λ z. Rows_chosen c.args.atoms.now z (state c.choose_rows.new.arrays c.args.table.now c.choose_rows.new.stack.items) (state c.choose_rows-2.new.arrays c.args.table.now c.choose_rows-2.new.stack.items) c.choose_rows-2.result) c.as_slice-2.ensures c.choose_rows-2.ensures.told)
