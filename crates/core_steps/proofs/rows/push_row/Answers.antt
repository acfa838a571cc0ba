use Rattle.std.proofs.lemmas.Result.{err_from_is_err_and}
use Rattle.core_code.specs.Registers.{state}
use Rattle.core_steps.proofs.Taking.{row_stop}
use Rattle.core_steps.proofs.rows.push_row.Goals as goal

pub returns-in_err-push_cell-clause-told : goal.returns-in_err-push_cell-clause-told
returns-in_err-push_cell-clause-told c =
    let p = err_from_is_err_and c.from_residual.result c.from_residual.ensures.1 in
    rw (p.1, p.2)
    (row_stop c.args.atoms.now c.args.i (state c.args.arrays.now c.args.table.now c.args.stack.now.items) (state c.push_cell.new.arrays c.args.table.now c.push_cell.new.stack.items) c.in_err-push_cell.field-0.0 c.in_err-push_cell.ensures.memory)
