use Rattle.std.proofs.Common.{refl, arith}
use Rattle.core_code.specs.Registers.{state}
use Rattle.core_steps.proofs.Taking.{push_scalar, push_array}
use Rattle.core_steps.proofs.rows.push_cell.Goals as goal

pub returns-in_ok-word-clause-told : goal.returns-in_ok-word-clause-told
returns-in_ok-word-clause-told c =
    push_scalar c.args.atom c.args.i c.in_ok-at.at (state c.args.arrays.now c.args.table.now c.args.stack.now.items) (state c.args.arrays.now c.args.table.now c.push.new.stack.items) c.in_ok-at.ensures.told
    c.elem_of.result c.in_ok-word.word c.push.result refl (omega (arith, c.rank_of.ensures, c.if-rank_of-eq1.true)) c.elem_of.ensures c.in_ok-word.ensures.told c.push.ensures.told

pub returns-in_ok-part-clause-told : goal.returns-in_ok-part-clause-told
returns-in_ok-part-clause-told c =
    push_array c.args.atom c.args.i c.in_ok-at.at (state c.args.arrays.now c.args.table.now c.args.stack.now.items) (state c.row_of.new.arrays c.args.table.now c.push-else-rank_of-eq1.new.stack.items) c.in_ok-at.ensures.told
    c.in_ok-part.part c.push-else-rank_of-eq1.result (λ e. absurd (omega (arith, e, c.rank_of.ensures, c.if-rank_of-eq1.false))) c.in_ok-part.ensures.told c.push-else-rank_of-eq1.ensures.told
