use Rattle.std.proofs.Common.{refl, arith}
use Rattle.core_code.specs.Registers.{state}
use Rattle.core_steps.proofs.Choosing.{arrays_more}
use Rattle.core_steps.proofs.selected.choose_rows.Goals as goal

pub loop-atom-preserved : goal.loop-atom-preserved
loop-atom-preserved c =
    arrays_more c.args.atoms.now c.args.rows.now (state c.args.arrays.now c.args.table.now c.args.stack.now.items) c.loop-atom.atom-index (state c.loop-atom.arrays c.args.table.now c.loop-atom.stack.items) c.loop-atom.invariant _ c.in_ok-at.at c.in_ok-number.number
    (state c.choose_column.new.arrays c.args.table.now c.push.new.stack.items) (omega (arith, c.loop-atom-test.true)) refl c.in_ok-at.ensures.told c.in_ok-number.ensures.told c.in_ok-push.ensures.told
