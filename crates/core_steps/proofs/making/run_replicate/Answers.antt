use Rattle.std.proofs.Common.{arith}
use Rattle.std.proofs.lemmas.Result.{err_from_is_err_and}
use Rattle.core_code.specs.Registers.{state}
use Rattle.core_steps.proofs.Repeating.{replicate_stop, replicate_done}
use Rattle.core_steps.proofs.making.run_replicate.Goals as goal

pub returns-in_err-many : goal.returns-in_err-many
returns-in_err-many c =
    let p = err_from_is_err_and c.from_residual.result c.from_residual.ensures.1 in
    rw (p.1, p.2)
    (replicate_stop c.args.count c.args.row.now c.args.place (state c.args.arrays.now c.args.table.now c.args.stack.now.items) (state c.args.arrays.now c.args.table.now c.args.stack.now.items) c.in_err-many.field-0.0 c.in_err-many.ensures)

pub returns : goal.returns
returns c =
    replicate_done c.args.count c.args.row.now c.args.place (state c.args.arrays.now c.args.table.now c.args.stack.now.items) (state c.glue_repeated.new.arrays c.args.table.now c.glue_repeated.new.stack.items) c.in_ok-many.many c.len-mark.result
    c.push_all.new.stack.items c.glue_repeated.result c.in_ok-many.ensures (omega (arith, c.len-mark.ensures, c.args.stack.now.ok.0)) c.in_ok-push_all.ensures.told (c.glue_repeated.ensures c.args.table.now)
