use Rattle.std.proofs.Common.{refl, arith}
use Rattle.core_code.specs.Registers.{state}
use Rattle.core_steps.proofs.Indices.{view_index}
use Rattle.core_steps.proofs.views.run_view.Goals as goal

pub returns-else-not-is_at : goal.returns-else-not-is_at
returns-else-not-is_at c budget =
    view_index budget c.args.view c.in-Index.rows c.in-Index.parts c.in-Index.numbers _ _ c.args.place (state c.args.arrays.now c.args.table.now c.args.stack.now.items) (state c.run_index.new.arrays c.args.table.now c.run_index.new.stack.items) c.run_index.result
    c.in-Index.is (omega (arith, c.if-numbers-ne1.false)) (omega (arith, c.if-parts-ne1.false)) (c.is_at.ensures c.if-not-is_at.false) refl c.run_index.ensures
