use Rattle.std.proofs.Common.{◌∙◌, ◌++◌, ◌∷◌, [], ap, arith}
use Rattle.std.proofs.lemmas.Result.{err_from_is_err_and}
use Rattle.core_code.specs.Registers.{state}
use Rattle.core_steps.proofs.Makes.{iota_stop, iota_large, iota_ok}
use Rattle.core_steps.proofs.making.run_iota.Goals as goal

pub returns-in_err-count : goal.returns-in_err-count
returns-in_err-count c =
    let p = err_from_is_err_and c.from_residual.result c.from_residual.ensures.1 in
    rw (p.1, p.2)
    (iota_stop c.args.atom c.args.place (state c.args.arrays.now c.args.table.now c.args.stack.now.items) (state c.args.arrays.now c.args.table.now c.args.stack.now.items) c.in_err-count.field-0.0 c.in_err-count.ensures)

pub returns : goal.returns
returns c =
    iota_ok c.args.atom c.args.place (state c.args.arrays.now c.args.table.now c.args.stack.now.items) (state c.put.new.self c.args.table.now c.push-2.new.stack.items) c.in_ok-count.count c.in_ok-count.ensures
    c.in_ok-cells.cells c.push.new.self c.in_ok-number.number c.push-2.result (omega (arith, c.if-count-gt-GREATEST_WEIGHT.false)) c.in_ok-cells.ensures (c.in_ok-push.ensures.ok ∙ ap (λ z. z ++ c.in_ok-count.count ∷ []) c.new-sizes.ensures)
    c.in_ok-number.ensures.number c.in_ok-number.ensures.put c.push-2.ensures.told

pub returns-then-count-gt-GREATEST_WEIGHT : goal.returns-then-count-gt-GREATEST_WEIGHT
returns-then-count-gt-GREATEST_WEIGHT c =
    iota_large c.args.atom c.args.place (state c.args.arrays.now c.args.table.now c.args.stack.now.items) (state c.args.arrays.now c.args.table.now c.args.stack.now.items) c.in_ok-count.count c.in_ok-count.ensures
    c.too_large.result (omega (arith, c.if-count-gt-GREATEST_WEIGHT.true)) c.too_large.ensures
