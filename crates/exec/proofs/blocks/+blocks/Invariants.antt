use Rattle.std.proofs.Common.{◌+◌, ◌*◌, max}
use Rattle.core_ir.specs.declared.block.Op.{size-Op}
use Rattle.core_ir.specs.declared.block.Block.{size-Block}
use Rattle.core_ir.specs.declared.block.Step.{size-Step}
use Rattle.core_ir.specs.Plain.{body_of, bundle_form, source_form}
use Rattle.core_code.specs.Registers.{state}
use Rattle.exec.proofs.Folds.{Fold_goes}
use Rattle.exec.proofs.Maps.{Each_goes}
use Rattle.exec.proofs.Loops.{For_goes, While_goes}
use Rattle.exec.proofs.Scans.{Prefixes_go}
use Rattle.exec.proofs.Steps.{Block_goes}
use Rattle.exec.proofs.Tests.{Tests_go}
use Rattle.exec.proofs.blocks.+blocks.Given as goal

abbrev pub decreases-run_block : goal.decreases-run_block
decreases-run_block l = 8 * size-Block l.block.now + 2

abbrev pub decreases-run_step : goal.decreases-run_step
decreases-run_step l = 8 * size-Step l.step.now + 1

abbrev pub decreases-run_op : goal.decreases-run_op
decreases-run_op l = 8 * size-Op l.op.now + 2

abbrev pub decreases-run_apply : goal.decreases-run_apply
decreases-run_apply l = 8 * size-Op l.op.now + 1

abbrev pub decreases-run_folding : goal.decreases-run_folding
decreases-run_folding l = 8 * size-Op l.op.now

abbrev pub decreases-run_fold : goal.decreases-run_fold
decreases-run_fold l = 8 * size-Block l.body.now + 6

abbrev pub decreases-run_map : goal.decreases-run_map
decreases-run_map l = 8 * size-Block l.body.now + 6

abbrev pub decreases-run_filter : goal.decreases-run_filter
decreases-run_filter l = 8 * size-Block l.test.now + 6

abbrev pub decreases-run_tests : goal.decreases-run_tests
decreases-run_tests l = 8 * size-Block l.test.now + 5

abbrev pub decreases-run_row : goal.decreases-run_row
decreases-run_row l = 8 * size-Block l.body.now + 4

abbrev pub decreases-run_scan : goal.decreases-run_scan
decreases-run_scan l = 8 * size-Block l.body.now + 6

abbrev pub decreases-run_prefixes : goal.decreases-run_prefixes
decreases-run_prefixes l = 8 * size-Block l.body.now + 5

abbrev pub decreases-run_for : goal.decreases-run_for
decreases-run_for l = 8 * size-Block l.body.now + 4

abbrev pub decreases-run_turn : goal.decreases-run_turn
decreases-run_turn l = 8 * size-Block l.body.now + 3

abbrev pub decreases-run_test : goal.decreases-run_test
decreases-run_test l = 8 * size-Block l.test.now + 3

abbrev pub decreases-run_while : goal.decreases-run_while
decreases-run_while l = 8 * max (size-Block l.test.now) (size-Block l.body.now) + 4

abbrev pub decreases-run_rows : goal.decreases-run_rows
decreases-run_rows l = 8 * size-Block l.body.now + 5

abbrev pub decreases-run_each : goal.decreases-run_each
decreases-run_each l = 8 * size-Block l.body.now + 5

abbrev pub decreases-run_element : goal.decreases-run_element
decreases-run_element l = 8 * size-Block l.body.now + 4

abbrev pub decreases-run_row_turn : goal.decreases-run_row_turn
decreases-run_row_turn l = 8 * size-Block l.body.now + 4

abbrev pub decreases-run_under : goal.decreases-run_under
decreases-run_under l = 8 * size-Block l.body.now + 3

abbrev pub invariant-run_block-loop-step : goal.invariant-run_block-loop-step
invariant-run_block-loop-step l = Block_goes l.turns l.block l.step-index (state l.initial.arrays l.initial.table l.initial.stack.items) (state l.arrays l.table l.stack.items)

abbrev pub invariant-run_for-loop-turn : goal.invariant-run_for-loop-turn
invariant-run_for-loop-turn l = For_goes l.turns (body_of l.body) l.params l.index l.ty l.count l.mark l.turn (state l.initial.arrays l.initial.table l.initial.stack.items) (state l.arrays l.table l.stack.items)

abbrev pub invariant-run_while-loop : goal.invariant-run_while-loop
invariant-run_while-loop l = While_goes l.turns l.counter (body_of l.test) (body_of l.body) l.params l.place l.mark (state l.initial.arrays l.initial.table l.initial.stack.items) (state l.arrays l.table l.stack.items)

abbrev pub invariant-run_rows-loop-i : goal.invariant-run_rows-loop-i
invariant-run_rows-loop-i l = Fold_goes l.turns (body_of l.body) l.params l.row (bundle_form l.rows) l.count l.mark l.i (state l.initial.arrays l.initial.table l.initial.stack.items) (state l.arrays l.table l.stack.items)

abbrev pub invariant-run_each-loop-i : goal.invariant-run_each-loop-i
invariant-run_each-loop-i l = Each_goes l.turns (body_of l.body) l.params (source_form l.over) l.count l.i (state l.initial.arrays l.initial.table l.initial.stack.items) (state l.arrays l.table l.stack.items)

abbrev pub invariant-run_tests-loop-i : goal.invariant-run_tests-loop-i
invariant-run_tests-loop-i l = Tests_go l.turns (body_of l.test) l.params (bundle_form l.rows) l.count l.i (state l.initial.arrays l.initial.table l.initial.stack.items) (state l.arrays l.table l.stack.items)

abbrev pub invariant-run_prefixes-loop-i : goal.invariant-run_prefixes-loop-i
invariant-run_prefixes-loop-i l = Prefixes_go l.turns (body_of l.body) l.params l.row (bundle_form l.rows) l.count l.i (state l.initial.arrays l.initial.table l.initial.stack.items) (state l.arrays l.table l.stack.items)
