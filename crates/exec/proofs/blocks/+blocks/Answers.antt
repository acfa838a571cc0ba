use Rattle.std.proofs.Common.{Ok, map, refl, subst, arith}
use Rattle.std.proofs.lemmas.Result.{err_from_is_err_and}
use Rattle.core_ir.specs.Plain.{body_of, bundle_form, group, source_form}
use Rattle.core_code.specs.Registers.{state}
use Rattle.core_code.specs.Answers.{Binds}
use Rattle.exec.proofs.Acts.{op_for, op_while, op_view, op_make}
use Rattle.exec.proofs.FoldActs.{for_in_done, for_in_failed, op_for_in, op_reduce, reduce_done, reduce_failed}
use Rattle.exec.proofs.Folds.{row_turn_done, under_done}
use Rattle.exec.proofs.MapActs.{map_failed, map_glued, map_none, map_stopped, op_map}
use Rattle.exec.proofs.Maps.{element_done}
use Rattle.exec.proofs.Loops.{turn_done, test_run_stop, test_over, while_body_stop, while_more}
use Rattle.exec.proofs.Scans.{op_scan, prefixes_more, prefixes_stop, scan_done, scan_failed, scan_first, scan_none, scan_stopped}
use Rattle.exec.proofs.Steps.{step_done, step_operated, block_end}
use Rattle.exec.proofs.Tests.{filter_failed, filter_stopped, filter_done, op_filter, row_element}
use Rattle.exec.proofs.blocks.+blocks.Goals as goal

pub run_block-returns : goal.run_block-returns
run_block-returns t c =
    block_end c.args.turns c.args.block.now c.loop-step.step-index (state c.args.arrays.now c.args.table.now c.args.stack.now.items) (state c.loop-step.arrays c.loop-step.table c.loop-step.stack.items)
    c.push_all.new.stack.items c.push_all.result (omega (arith, c.loop-step-test.false)) c.loop-step.invariant c.push_all.ensures.told

pub run_op-returns-in_ok-count-in-For : goal.run_op-returns-in_ok-count-in-For
run_op-returns-in_ok-count-in-For t c =
    op_for c.args.turns c.args.op.now c.args.place c.in-For.params c.in-For.first (state c.args.arrays.now c.args.table.now c.args.stack.now.items) (state c.run_for.new.arrays c.run_for.new.table c.run_for.new.stack.items)
    c.push_all.new.stack.items c.len-mark.result c.run_for.result (omega (arith, c.len-mark.ensures, c.args.stack.now.ok.0)) c.in_ok-push_all-in-For.ensures.told
    c.in-For.index c.in-For.count c.in-For.body c.in-Int.ty c.in_ok-count-in-For.count c.in-For.is c.in-Int.is c.in_ok-count-in-For.ensures.told c.run_for.ensures

pub run_op-returns-in_ok-push_all-in-While : goal.run_op-returns-in_ok-push_all-in-While
run_op-returns-in_ok-push_all-in-While t c =
    op_while c.args.turns c.args.op.now c.args.place c.in-While.params c.in-While.first (state c.args.arrays.now c.args.table.now c.args.stack.now.items) (state c.run_while.new.arrays c.run_while.new.table c.run_while.new.stack.items)
    c.push_all-in-While.new.stack.items c.len-mark-in-While.result c.run_while.result (omega (arith, c.len-mark-in-While.ensures, c.args.stack.now.ok.0)) c.in_ok-push_all-in-While.ensures.told
    c.in-While.test c.in-While.body c.in-While.is c.run_while.ensures

pub run_step-returns-in-Operate : goal.run_step-returns-in-Operate
run_step-returns-in-Operate t c =
    step_operated c.args.turns c.args.step.now (state c.args.arrays.now c.args.table.now c.args.stack.now.items) (state c.args.arrays.now c.run_operation.new.table c.args.stack.now.items)
    c.in-Operate.operation c.run_operation.result c.in-Operate.is (c.run_operation.ensures c.args.turns c.args.stack.now.items)

pub run_step-returns : goal.run_step-returns
run_step-returns t c =
    step_done c.args.turns c.args.step.now (state c.args.arrays.now c.args.table.now c.args.stack.now.items) (state c.run_op.new.arrays c.run_op.new.table c.run_op.new.stack.items)
    c.take.new.table c.take.new.stack.items c.len-mark.result c.take.result (omega (arith, c.len-mark.ensures, c.args.stack.now.ok.0)) c.in_ok-run_op.ensures c.take.ensures.told

pub run_test-returns-in_err-run_block : goal.run_test-returns-in_err-run_block
run_test-returns-in_err-run_block t c =
    let p = err_from_is_err_and c.from_residual-in_err-run_block.result c.from_residual-in_err-run_block.ensures.1 in
    let bound = subst (λ z. Binds c.args.params.now c.args.mark c.args.table.now c.bind.new.table z (Ok tt)) c.deref.ensures.value c.in_ok-bind.ensures.told in
    rw (p.1, p.2)
    (test_run_stop c.args.turns (body_of c.args.test.now) c.args.params.now c.args.mark (state c.args.arrays.now c.args.table.now c.args.stack.now.items) c.bind.new.table bound
    (state c.run_block.new.arrays c.run_block.new.table c.run_block.new.stack.items) c.in_err-run_block.field-0.0 c.in_err-run_block.ensures)

pub run_test-returns : goal.run_test-returns
run_test-returns t c =
    let bound = subst (λ z. Binds c.args.params.now c.args.mark c.args.table.now c.bind.new.table z (Ok tt)) c.deref.ensures.value c.in_ok-bind.ensures.told in
    test_over c.args.turns (body_of c.args.test.now) c.args.params.now c.args.mark (state c.args.arrays.now c.args.table.now c.args.stack.now.items) c.bind.new.table
    (state c.run_block.new.arrays c.run_block.new.table c.run_block.new.stack.items) c.len-top.result c.pop_truth.new.stack.items c.pop_truth.result bound (omega (arith, c.len-top.ensures, c.args.stack.now.ok.0))
    c.in_ok-run_block.ensures c.pop_truth.ensures.told c.pop_truth.ensures.memory

pub run_turn-returns : goal.run_turn-returns
run_turn-returns t c =
    turn_done c.args.turns (body_of c.args.body.now) c.args.params.now c.args.index c.args.ty c.args.turn c.args.mark (state c.args.arrays.now c.args.table.now c.args.stack.now.items)
    c.take.new.table c.take.new.stack.items c.set_word.new.table (state c.run_block.new.arrays c.run_block.new.table c.run_block.new.stack.items) c.run_block.result
    c.in_ok-take.ensures.told c.in_ok-set_word.ensures.told c.run_block.ensures

pub run_while-returns-in_err-run_block : goal.run_while-returns-in_err-run_block
run_while-returns-in_err-run_block t c =
    let p = err_from_is_err_and c.from_residual-in_err-run_block.result c.from_residual-in_err-run_block.ensures.1 in
    rw (p.1, p.2)
    (while_body_stop c.args.turns (body_of c.args.test.now) (body_of c.args.body.now) c.args.params.now c.args.place c.args.mark c.loop.counter
    (state c.args.arrays.now c.args.table.now c.args.stack.now.items) (state c.loop.arrays c.loop.table c.loop.stack.items) (state c.run_test.new.arrays c.run_test.new.table c.run_test.new.stack.items) c.loop.invariant
    c.truncate.new.self.items c.truncate.ensures.items (state c.run_block.new.arrays c.run_block.new.table c.run_block.new.stack.items) c.in_err-run_block.field-0.0
    (omega (arith, c.loop-test.true)) (rw c.if-not-branch.false at c.in_ok-run_test.ensures) c.in_err-run_block.ensures)

pub run_while-loop-preserved : goal.run_while-loop-preserved
run_while-loop-preserved t c =
    while_more c.args.turns (body_of c.args.test.now) (body_of c.args.body.now) c.args.params.now c.args.place c.args.mark c.loop.counter
    (state c.args.arrays.now c.args.table.now c.args.stack.now.items) (state c.loop.arrays c.loop.table c.loop.stack.items) (state c.run_test.new.arrays c.run_test.new.table c.run_test.new.stack.items) c.loop.invariant
    c.truncate.new.self.items c.truncate.ensures.items (state c.run_block.new.arrays c.run_block.new.table c.run_block.new.stack.items)
    (omega (arith, c.loop-test.true)) (rw c.if-not-branch.false at c.in_ok-run_test.ensures) c.in_ok-run_block.ensures

pub run_row_turn-returns : goal.run_row_turn-returns
run_row_turn-returns t c =
    row_turn_done c.args.turns (body_of c.args.body.now) c.args.params.now c.args.row.now (bundle_form c.args.rows) c.args.i c.args.mark (state c.args.arrays.now c.args.table.now c.args.stack.now.items)
    c.take.new.table c.take.new.stack.items (state c.push_bundle.new.arrays c.take.new.table c.push_bundle.new.stack.items) (state c.run_under.new.arrays c.run_under.new.table c.run_under.new.stack.items) c.run_under.result
    c.in_ok-take.ensures.told c.in_ok-push_bundle.ensures.told refl c.run_under.ensures

pub run_under-returns : goal.run_under-returns
run_under-returns t c =
    under_done c.args.turns (body_of c.args.body.now) c.args.params.now c.args.mark (state c.args.arrays.now c.args.table.now c.args.stack.now.items)
    c.take.new.table c.take.new.stack.items (state c.run_block.new.arrays c.run_block.new.table c.run_block.new.stack.items) c.run_block.result c.in_ok-take.ensures.told c.run_block.ensures

pub run_element-returns : goal.run_element-returns
run_element-returns t c =
    element_done c.args.turns (body_of c.args.body.now) c.args.params.now (source_form c.args.over) c.args.i (state c.args.arrays.now c.args.table.now c.args.stack.now.items) c.len-mark.result (state c.push_source.new.arrays c.args.table.now c.push_source.new.stack.items)
    (state c.run_under.new.arrays c.run_under.new.table c.run_under.new.stack.items) c.run_under.result (omega (arith, c.len-mark.ensures, c.args.stack.now.ok.0)) refl c.in_ok-push_source.ensures.told c.run_under.ensures

pub run_apply-returns-in-View : goal.run_apply-returns-in-View
run_apply-returns-in-View t c =
    op_view c.args.turns c.args.op.now c.in-View.view c.args.place (state c.args.arrays.now c.args.table.now c.args.stack.now.items) (state c.run_view.new.arrays c.args.table.now c.run_view.new.stack.items) c.run_view.result c.in-View.is (c.run_view.ensures c.args.turns)

pub run_apply-returns-in-Make : goal.run_apply-returns-in-Make
run_apply-returns-in-Make t c =
    op_make c.args.turns c.args.op.now c.in-Make.making c.args.place (state c.args.arrays.now c.args.table.now c.args.stack.now.items) (state c.run_making.new.arrays c.args.table.now c.run_making.new.stack.items) c.run_making.result c.in-Make.is (c.run_making.ensures c.args.turns)

pub run_folding-returns-in-ForIn : goal.run_folding-returns-in-ForIn
run_folding-returns-in-ForIn t c =
    op_for_in c.args.turns c.args.op.now c.args.place c.in-ForIn.first c.in-ForIn.rows (state c.args.arrays.now c.args.table.now c.args.stack.now.items) (state c.run_fold.new.arrays c.run_fold.new.table c.run_fold.new.stack.items) c.run_fold.result
    c.in-ForIn.params c.in-ForIn.row c.in-ForIn.body c.in-ForIn.is c.run_fold.ensures.folded

pub run_folding-returns-in-Reduce : goal.run_folding-returns-in-Reduce
run_folding-returns-in-Reduce t c =
    op_reduce c.args.turns c.args.op.now c.args.place c.in-Reduce.neutral c.in-Reduce.rows (state c.args.arrays.now c.args.table.now c.args.stack.now.items) (state c.run_fold-in-Reduce.new.arrays c.run_fold-in-Reduce.new.table c.run_fold-in-Reduce.new.stack.items) c.run_fold-in-Reduce.result
    c.in-Reduce.operator c.in-Reduce.is c.run_fold-in-Reduce.ensures.reduced

pub run_apply-returns-in-Map : goal.run_apply-returns-in-Map
run_apply-returns-in-Map t c =
    op_map c.args.turns c.args.op.now c.args.place c.in-Map.over c.in-Map.sizes c.in-Map.params c.in-Map.body (state c.args.arrays.now c.args.table.now c.args.stack.now.items) (state c.run_map.new.arrays c.run_map.new.table c.run_map.new.stack.items) c.run_map.result
    c.in-Map.is c.run_map.ensures

pub run_fold-returns-in_err-count-clause-folded : goal.run_fold-returns-in_err-count-clause-folded
run_fold-returns-in_err-count-clause-folded t c =
    let p = err_from_is_err_and c.from_residual-in_err-count.result c.from_residual-in_err-count.ensures.1 in
    rw (p.1, p.2)
    (for_in_failed c.args.turns c.args.place c.args.first.now (bundle_form c.args.rows) (state c.args.arrays.now c.args.table.now c.args.stack.now.items) (state c.args.arrays.now c.args.table.now c.push_all.new.stack.items)
    c.push_all.new.stack.items c.len-mark.result (omega (arith, c.len-mark.ensures, c.args.stack.now.ok.0)) c.in_ok-push_all.ensures.told
    c.args.params.now c.args.row.now (body_of c.args.body.now) c.in_err-count.field-0.0 c.in_err-count.ensures)

pub run_fold-returns-in_err-count-clause-reduced : goal.run_fold-returns-in_err-count-clause-reduced
run_fold-returns-in_err-count-clause-reduced t c =
    let p = err_from_is_err_and c.from_residual-in_err-count.result c.from_residual-in_err-count.ensures.1 in
    rw (p.1, p.2)
    (reduce_failed c.args.turns c.args.place c.args.first.now (bundle_form c.args.rows) (state c.args.arrays.now c.args.table.now c.args.stack.now.items) (state c.args.arrays.now c.args.table.now c.push_all.new.stack.items)
    c.push_all.new.stack.items c.len-mark.result (omega (arith, c.len-mark.ensures, c.args.stack.now.ok.0)) c.in_ok-push_all.ensures.told
    c.args.params.now c.args.row.now (body_of c.args.body.now) c.in_err-count.field-0.0 c.in_err-count.ensures)

pub run_fold-returns-clause-folded : goal.run_fold-returns-clause-folded
run_fold-returns-clause-folded t c =
    for_in_done c.args.turns c.args.place c.args.first.now (bundle_form c.args.rows) (state c.args.arrays.now c.args.table.now c.args.stack.now.items) (state c.run_rows.new.arrays c.run_rows.new.table c.run_rows.new.stack.items)
    c.push_all.new.stack.items c.len-mark.result (omega (arith, c.len-mark.ensures, c.args.stack.now.ok.0)) c.in_ok-push_all.ensures.told
    c.args.params.now c.args.row.now (body_of c.args.body.now) c.in_ok-count.count c.run_rows.result c.in_ok-count.ensures c.run_rows.ensures

pub run_fold-returns-clause-reduced : goal.run_fold-returns-clause-reduced
run_fold-returns-clause-reduced t c =
    reduce_done c.args.turns c.args.place c.args.first.now (bundle_form c.args.rows) (state c.args.arrays.now c.args.table.now c.args.stack.now.items) (state c.run_rows.new.arrays c.run_rows.new.table c.run_rows.new.stack.items)
    c.push_all.new.stack.items c.len-mark.result (omega (arith, c.len-mark.ensures, c.args.stack.now.ok.0)) c.in_ok-push_all.ensures.told
    c.args.params.now c.args.row.now (body_of c.args.body.now) c.in_ok-count.count c.run_rows.result c.in_ok-count.ensures c.run_rows.ensures

pub run_map-returns-in_err-count : goal.run_map-returns-in_err-count
run_map-returns-in_err-count t c =
    let p = err_from_is_err_and c.from_residual.result c.from_residual.ensures.1 in
    rw (p.1, p.2)
    (map_failed c.args.turns c.args.place (source_form c.args.over) (map group c.args.sizes.now) c.args.params.now c.args.body.now (state c.args.arrays.now c.args.table.now c.args.stack.now.items)
    (state c.args.arrays.now c.args.table.now c.args.stack.now.items) c.in_err-count.field-0.0 c.in_err-count.ensures)

pub run_map-returns-then-count-eq0 : goal.run_map-returns-then-count-eq0
run_map-returns-then-count-eq0 t c =
    map_none c.args.turns c.args.place (source_form c.args.over) (map group c.args.sizes.now) c.args.params.now c.args.body.now (state c.args.arrays.now c.args.table.now c.args.stack.now.items) c.in_ok-count.count c.in_ok-count.ensures
    (state c.glue_none.new.arrays c.args.table.now c.glue_none.new.stack.items) c.glue_none.result (omega (arith, c.if-count-eq0.true)) c.glue_none.ensures refl

pub run_map-returns-in_err-run_each : goal.run_map-returns-in_err-run_each
run_map-returns-in_err-run_each t c =
    let p = err_from_is_err_and c.from_residual-in_err-run_each.result c.from_residual-in_err-run_each.ensures.1 in
    rw (p.1, p.2)
    (map_stopped c.args.turns c.args.place (source_form c.args.over) (map group c.args.sizes.now) c.args.params.now c.args.body.now (state c.args.arrays.now c.args.table.now c.args.stack.now.items) c.in_ok-count.count c.in_ok-count.ensures
    (state c.run_each.new.arrays c.run_each.new.table c.run_each.new.stack.items) c.in_err-run_each.field-0.0 c.in_err-run_each.ensures)

pub run_map-returns : goal.run_map-returns
run_map-returns t c =
    map_glued c.args.turns c.args.place (source_form c.args.over) (map group c.args.sizes.now) c.args.params.now c.args.body.now (state c.args.arrays.now c.args.table.now c.args.stack.now.items) c.in_ok-count.count c.in_ok-count.ensures c.len-mark.result
    (state c.run_each.new.arrays c.run_each.new.table c.run_each.new.stack.items) (state c.glue.new.arrays c.run_each.new.table c.glue.new.stack.items) c.glue.result
    (λ e. absurd (omega (arith, e, c.if-count-eq0.false))) (omega (arith, c.len-mark.ensures, c.args.stack.now.ok.0)) c.in_ok-run_each.ensures c.results_of.result.now c.results_of.ensures (c.glue.ensures c.run_each.new.table) refl

pub run_apply-returns-in-Filter : goal.run_apply-returns-in-Filter
run_apply-returns-in-Filter t c =
    op_filter c.args.turns c.args.op.now c.args.place c.in-Filter.rows c.in-Filter.params c.in-Filter.test (state c.args.arrays.now c.args.table.now c.args.stack.now.items) (state c.run_filter.new.arrays c.run_filter.new.table c.run_filter.new.stack.items) c.run_filter.result
    c.in-Filter.is c.run_filter.ensures

pub run_filter-returns-in_err-count : goal.run_filter-returns-in_err-count
run_filter-returns-in_err-count t c =
    let p = err_from_is_err_and c.from_residual.result c.from_residual.ensures.1 in
    rw (p.1, p.2)
    (filter_failed c.args.turns c.args.place (bundle_form c.args.rows) c.args.params.now (body_of c.args.test.now) (state c.args.arrays.now c.args.table.now c.args.stack.now.items)
    (state c.args.arrays.now c.args.table.now c.args.stack.now.items) c.in_err-count.field-0.0 c.in_err-count.ensures)

pub run_filter-returns-in_err-run_tests : goal.run_filter-returns-in_err-run_tests
run_filter-returns-in_err-run_tests t c =
    let p = err_from_is_err_and c.from_residual-in_err-run_tests.result c.from_residual-in_err-run_tests.ensures.1 in
    rw (p.1, p.2)
    (filter_stopped c.args.turns c.args.place (bundle_form c.args.rows) c.args.params.now (body_of c.args.test.now) (state c.args.arrays.now c.args.table.now c.args.stack.now.items) c.in_ok-count.count c.in_ok-count.ensures
    (state c.run_tests.new.arrays c.run_tests.new.table c.run_tests.new.stack.items) c.in_err-run_tests.field-0.0 c.in_err-run_tests.ensures)

pub run_filter-returns : goal.run_filter-returns
run_filter-returns t c =
    filter_done c.args.turns c.args.place (bundle_form c.args.rows) c.args.params.now (body_of c.args.test.now) (state c.args.arrays.now c.args.table.now c.args.stack.now.items) c.in_ok-count.count c.in_ok-count.ensures c.len-mark.result
    (state c.run_tests.new.arrays c.run_tests.new.table c.run_tests.new.stack.items) (state c.keep_passing.new.arrays c.run_tests.new.table c.keep_passing.new.stack.items) c.keep_passing.result
    (omega (arith, c.len-mark.ensures, c.args.stack.now.ok.0)) c.in_ok-run_tests.ensures c.keep_passing.ensures.told refl

pub run_row-returns : goal.run_row-returns
run_row-returns t c =
    row_element c.args.turns (body_of c.args.body.now) c.args.params.now (bundle_form c.args.rows) c.args.i c.len-mark.result (state c.args.arrays.now c.args.table.now c.args.stack.now.items) (state c.push_bundle.new.arrays c.args.table.now c.push_bundle.new.stack.items)
    (state c.run_under.new.arrays c.run_under.new.table c.run_under.new.stack.items) c.run_under.result (omega (arith, c.len-mark.ensures, c.args.stack.now.ok.0)) refl c.in_ok-push_bundle.ensures.told c.run_under.ensures

pub run_folding-returns-in-Scan : goal.run_folding-returns-in-Scan
run_folding-returns-in-Scan t c =
    op_scan c.args.turns c.args.op.now c.args.place c.in-Scan.neutral c.in-Scan.rows c.in-Scan.operator (state c.args.arrays.now c.args.table.now c.args.stack.now.items) (state c.run_scan.new.arrays c.run_scan.new.table c.run_scan.new.stack.items) c.run_scan.result
    c.in-Scan.is c.run_scan.ensures

pub run_scan-returns-in_err-count : goal.run_scan-returns-in_err-count
run_scan-returns-in_err-count t c =
    let p = err_from_is_err_and c.from_residual.result c.from_residual.ensures.1 in
    rw (p.1, p.2)
    (scan_failed c.args.turns c.args.place c.args.neutral.now (bundle_form c.args.rows) c.args.params.now c.args.row.now c.args.body.now (state c.args.arrays.now c.args.table.now c.args.stack.now.items)
    (state c.args.arrays.now c.args.table.now c.args.stack.now.items) c.in_err-count.field-0.0 c.in_err-count.ensures)

pub run_scan-returns-then-count-eq0 : goal.run_scan-returns-then-count-eq0
run_scan-returns-then-count-eq0 t c =
    scan_none c.args.turns c.args.place c.args.neutral.now (bundle_form c.args.rows) c.args.params.now c.args.row.now c.args.body.now (state c.args.arrays.now c.args.table.now c.args.stack.now.items) c.in_ok-count.count c.in_ok-count.ensures
    (state c.keep_none.new.arrays c.args.table.now c.keep_none.new.stack.items) c.keep_none.result (omega (arith, c.if-count-eq0.true)) c.keep_none.ensures refl

pub run_scan-returns-in_err-run_row_turn : goal.run_scan-returns-in_err-run_row_turn
run_scan-returns-in_err-run_row_turn t c =
    let p = err_from_is_err_and c.from_residual-in_err-run_row_turn.result c.from_residual-in_err-run_row_turn.ensures.1 in
    rw (p.1, p.2)
    (scan_first c.args.turns c.args.place c.args.neutral.now (bundle_form c.args.rows) c.args.params.now c.args.row.now c.args.body.now (state c.args.arrays.now c.args.table.now c.args.stack.now.items) c.in_ok-count.count c.in_ok-count.ensures c.push_all.new.stack.items c.len-mark.result (omega (arith, c.len-mark.ensures, c.args.stack.now.ok.0)) c.in_ok-push_all.ensures.told (λ e. absurd (omega (arith, e, c.if-count-eq0.false)))
    (state c.run_row_turn.new.arrays c.run_row_turn.new.table c.run_row_turn.new.stack.items) c.in_err-run_row_turn.field-0.0 c.in_err-run_row_turn.ensures)

pub run_scan-returns-in_err-run_prefixes : goal.run_scan-returns-in_err-run_prefixes
run_scan-returns-in_err-run_prefixes t c =
    let p = err_from_is_err_and c.from_residual-in_err-run_prefixes.result c.from_residual-in_err-run_prefixes.ensures.1 in
    rw (p.1, p.2)
    (scan_stopped c.args.turns c.args.place c.args.neutral.now (bundle_form c.args.rows) c.args.params.now c.args.row.now c.args.body.now (state c.args.arrays.now c.args.table.now c.args.stack.now.items) c.in_ok-count.count c.in_ok-count.ensures c.push_all.new.stack.items c.len-mark.result (omega (arith, c.len-mark.ensures, c.args.stack.now.ok.0)) c.in_ok-push_all.ensures.told (λ e. absurd (omega (arith, e, c.if-count-eq0.false)))
    (state c.run_row_turn.new.arrays c.run_row_turn.new.table c.run_row_turn.new.stack.items) c.in_ok-run_row_turn.ensures
    (state c.run_prefixes.new.arrays c.run_prefixes.new.table c.run_prefixes.new.stack.items) c.in_err-run_prefixes.field-0.0 c.in_err-run_prefixes.ensures)

pub run_scan-returns : goal.run_scan-returns
run_scan-returns t c =
    scan_done c.args.turns c.args.place c.args.neutral.now (bundle_form c.args.rows) c.args.params.now c.args.row.now c.args.body.now (state c.args.arrays.now c.args.table.now c.args.stack.now.items) c.in_ok-count.count c.in_ok-count.ensures c.push_all.new.stack.items c.len-mark.result (omega (arith, c.len-mark.ensures, c.args.stack.now.ok.0)) c.in_ok-push_all.ensures.told (λ e. absurd (omega (arith, e, c.if-count-eq0.false)))
    (state c.run_row_turn.new.arrays c.run_row_turn.new.table c.run_row_turn.new.stack.items) c.in_ok-run_row_turn.ensures
    (state c.run_prefixes.new.arrays c.run_prefixes.new.table c.run_prefixes.new.stack.items) (state c.glue.new.arrays c.run_prefixes.new.table c.glue.new.stack.items) c.glue.result
    c.results_of.result.now c.in_ok-run_prefixes.ensures c.results_of.ensures (c.glue.ensures c.run_prefixes.new.table) refl

pub run_prefixes-returns-in_err-run_row_turn : goal.run_prefixes-returns-in_err-run_row_turn
run_prefixes-returns-in_err-run_row_turn t c =
    let p = err_from_is_err_and c.from_residual-in_err-run_row_turn.result c.from_residual-in_err-run_row_turn.ensures.1 in
    rw (p.1, p.2)
    (prefixes_stop c.args.turns (body_of c.args.body.now) c.args.params.now c.args.row.now (bundle_form c.args.rows) c.args.count c.loop-i.i (state c.args.arrays.now c.args.table.now c.args.stack.now.items) (state c.loop-i.arrays c.loop-i.table c.loop-i.stack.items) c.loop-i.invariant
    _ c.len-mark.result c.push_last.new.stack.items (state c.run_row_turn.new.arrays c.run_row_turn.new.table c.run_row_turn.new.stack.items) (omega (arith, c.loop-i-test.true)) refl c.in_ok-push_last.ensures.told (omega (arith, c.len-mark.ensures, c.loop-i.stack.ok.0)) c.in_err-run_row_turn.field-0.0 c.in_err-run_row_turn.ensures)

pub run_prefixes-loop-i-preserved : goal.run_prefixes-loop-i-preserved
run_prefixes-loop-i-preserved t c =
    prefixes_more c.args.turns (body_of c.args.body.now) c.args.params.now c.args.row.now (bundle_form c.args.rows) c.args.count c.loop-i.i (state c.args.arrays.now c.args.table.now c.args.stack.now.items) (state c.loop-i.arrays c.loop-i.table c.loop-i.stack.items) c.loop-i.invariant
    _ c.len-mark.result c.push_last.new.stack.items (state c.run_row_turn.new.arrays c.run_row_turn.new.table c.run_row_turn.new.stack.items) (omega (arith, c.loop-i-test.true)) refl c.in_ok-push_last.ensures.told (omega (arith, c.len-mark.ensures, c.loop-i.stack.ok.0)) c.in_ok-run_row_turn.ensures
