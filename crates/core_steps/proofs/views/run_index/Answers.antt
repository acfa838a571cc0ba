use Rattle.std.proofs.Common.{arith}
use Rattle.std.proofs.lemmas.Result.{err_from_is_err_and}
use Rattle.core_ir.specs.Plain.{bundle_form}
use Rattle.core_code.specs.Registers.{state}
use Rattle.core_steps.proofs.Indices.{index_failed_at, index_misfit, index_done}
use Rattle.core_steps.proofs.views.run_index.Goals as goal

pub returns-in_err-i : goal.returns-in_err-i
returns-in_err-i c =
    let p = err_from_is_err_and c.from_residual.result c.from_residual.ensures.1 in
    rw (p.1, p.2)
    (index_failed_at (bundle_form c.args.rows) c.args.number c.args.place (state c.args.arrays.now c.args.table.now c.args.stack.now.items) (state c.args.arrays.now c.args.table.now c.args.stack.now.items) c.in_err-i.field-0.0 c.in_err-i.ensures)

pub returns-in_err-count : goal.returns-in_err-count
returns-in_err-count c =
    let p = err_from_is_err_and c.from_residual-in_err-count.result c.from_residual-in_err-count.ensures.1 in
    rw (p.1, p.2)
    (index_misfit (bundle_form c.args.rows) c.args.number c.args.place (state c.args.arrays.now c.args.table.now c.args.stack.now.items) c.in_ok-i.i c.in_ok-i.ensures (state c.args.arrays.now c.args.table.now c.args.stack.now.items) c.in_err-count.field-0.0 c.in_err-count.ensures)

pub returns : goal.returns
returns c =
    index_done (bundle_form c.args.rows) c.args.number c.args.place (state c.args.arrays.now c.args.table.now c.args.stack.now.items) c.in_ok-i.i c.in_ok-i.ensures c.in_ok-count.count c.bundle_within.new.stack.items (state c.push_bundle.new.arrays c.args.table.now c.push_bundle.new.stack.items) c.push_bundle.result
    c.in_ok-count.ensures (omega (arith, c.if-i-count.false)) (rw c.if-not-branch.false at c.in_ok-bundle_within.ensures.told) c.push_bundle.ensures.told
