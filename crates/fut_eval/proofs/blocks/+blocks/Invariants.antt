use Rattle.std.proofs.Common.{◌+◌, ◌*◌, max}
use Rattle.fut_blocks.specs.declared.block.Act.{size-Act}
use Rattle.fut_blocks.specs.declared.block.Block.{size-Block}
use Rattle.fut_blocks.specs.declared.block.Step.{size-Step}
use Rattle.fut_blocks.specs.Plain.{body_of}
use Rattle.fut_eval.proofs.Loops.{For_goes, Over_goes, While_goes}
use Rattle.fut_eval.proofs.Combining.{Combine_goes}
use Rattle.fut_eval.proofs.Folding.{Fold_goes, Scan_goes}
use Rattle.fut_eval.proofs.Rowing.{Each_goes}
use Rattle.fut_eval.proofs.Steps.{Block_goes}
use Rattle.array_data.specs.Held.{built_rows, held, held_all}
use Rattle.fut_eval.proofs.blocks.+blocks.Given as goal

abbrev pub decreases-run_block : goal.decreases-run_block
decreases-run_block l = 9 * size-Block l.block.now + 2

abbrev pub decreases-run_step : goal.decreases-run_step
decreases-run_step l = 9 * size-Step l.step.now + 1

abbrev pub decreases-run_act : goal.decreases-run_act
decreases-run_act l = 9 * size-Act l.act.now

abbrev pub decreases-run_primitive : goal.decreases-run_primitive
decreases-run_primitive l = 9 * size-Block l.body.now + 8

abbrev pub decreases-run_writes : goal.decreases-run_writes
decreases-run_writes l = 9 * size-Block l.body.now + 7

abbrev pub decreases-run_job : goal.decreases-run_job
decreases-run_job l = 9 * size-Block l.body.now + 7

abbrev pub decreases-run_each : goal.decreases-run_each
decreases-run_each l = 9 * size-Block l.body.now + 6

abbrev pub decreases-run_fold : goal.decreases-run_fold
decreases-run_fold l = 9 * size-Block l.body.now + 6

abbrev pub decreases-run_scan : goal.decreases-run_scan
decreases-run_scan l = 9 * size-Block l.body.now + 6

abbrev pub decreases-run_combine : goal.decreases-run_combine
decreases-run_combine l = 9 * size-Block l.body.now + 6

abbrev pub decreases-fold_next : goal.decreases-fold_next
decreases-fold_next l = 9 * size-Block l.body.now + 5

abbrev pub decreases-combine_at : goal.decreases-combine_at
decreases-combine_at l = 9 * size-Block l.body.now + 5

abbrev pub decreases-apply_two : goal.decreases-apply_two
decreases-apply_two l = 9 * size-Block l.body.now + 4

abbrev pub decreases-apply : goal.decreases-apply
decreases-apply l = 9 * size-Block l.body.now + 3

abbrev pub decreases-run_for : goal.decreases-run_for
decreases-run_for l = 9 * size-Block l.body.now + 4

abbrev pub decreases-run_over : goal.decreases-run_over
decreases-run_over l = 9 * size-Block l.body.now + 4

abbrev pub decreases-run_turn : goal.decreases-run_turn
decreases-run_turn l = 9 * size-Block l.body.now + 3

abbrev pub decreases-run_test : goal.decreases-run_test
decreases-run_test l = 9 * size-Block l.test.now + 3

abbrev pub decreases-run_while : goal.decreases-run_while
decreases-run_while l = 9 * max (size-Block l.test.now) (size-Block l.body.now) + 4

abbrev pub invariant-run_block-loop-step : goal.invariant-run_block-loop-step
invariant-run_block-loop-step l = Block_goes l.turns l.block l.step-index (held_all l.initial.table) (held_all l.table) (held_all l.initial.stack.items) (held_all l.stack.items)

abbrev pub invariant-run_for-loop-turn : goal.invariant-run_for-loop-turn
invariant-run_for-loop-turn l = For_goes l.turns (body_of l.body) l.params l.index l.ty l.count l.mark l.turn (held_all l.initial.table) (held_all l.table) (held_all l.initial.stack.items) (held_all l.stack.items)

abbrev pub invariant-run_while-loop : goal.invariant-run_while-loop
invariant-run_while-loop l = While_goes l.turns l.counter (body_of l.test) (body_of l.body) l.params l.place l.mark (held_all l.initial.table) (held_all l.table) (held_all l.initial.stack.items) (held_all l.stack.items)

abbrev pub invariant-run_each-loop-i : goal.invariant-run_each-loop-i
invariant-run_each-loop-i l = Each_goes l.turns (body_of l.body) l.params l.finish (held_all l.args) l.n l.i (built_rows l.built) (held_all l.initial.table) (held_all l.table) (held_all l.initial.stack.items) (held_all l.stack.items)

abbrev pub invariant-run_fold-loop-i : goal.invariant-run_fold-loop-i
invariant-run_fold-loop-i l = Fold_goes l.turns (body_of l.body) l.params (held l.neutral) (held l.rows) l.i (held l.sofar) (held_all l.initial.table) (held_all l.table) (held_all l.initial.stack.items) (held_all l.stack.items)

abbrev pub invariant-run_scan-loop-i : goal.invariant-run_scan-loop-i
invariant-run_scan-loop-i l = Scan_goes l.turns (body_of l.body) l.params (held l.neutral) (held l.rows) l.i (held l.sofar) (built_rows l.built) (held_all l.initial.table) (held_all l.table) (held_all l.initial.stack.items) (held_all l.stack.items)

abbrev pub invariant-run_over-loop-i : goal.invariant-run_over-loop-i
invariant-run_over-loop-i l = Over_goes l.turns (body_of l.body) l.params l.element (held l.rows) l.mark l.i (held_all l.initial.table) (held_all l.table) (held_all l.initial.stack.items) (held_all l.stack.items)

abbrev pub invariant-run_combine-loop-i : goal.invariant-run_combine-loop-i
invariant-run_combine-loop-i l = Combine_goes l.turns (body_of l.body) l.params (built_rows l.initial.rows) (held l.indices) (held l.values) l.n l.i (built_rows l.rows) (held_all l.initial.table) (held_all l.table) (held_all l.initial.stack.items) (held_all l.stack.items)
