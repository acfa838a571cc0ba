use Rattle.std.proofs.Common.{arith}
use Rattle.core_code.specs.Registers.{state}
use Rattle.core_steps.proofs.Emptying.{none_bare, none_end}
use Rattle.core_steps.proofs.empties.glue_none.Goals as goal

pub returns-then-told-eq0 : goal.returns-then-told-eq0
returns-then-told-eq0 c =
    none_bare c.args.told.now c.args.place (state c.args.arrays.now c.args.table.now c.args.stack.now.items) c.len-mark.result (state c.glue_bare.new.arrays c.args.table.now c.glue_bare.new.stack.items) c.glue_bare.result
    (omega (arith, c.if-told-eq0.true)) (omega (arith, c.len-mark.ensures, c.args.stack.now.ok.0)) (c.glue_bare.ensures c.args.table.now)

pub returns : goal.returns
returns c =
    none_end c.args.told.now c.args.place (state c.args.arrays.now c.args.table.now c.args.stack.now.items) c.loop-i.i (state c.loop-i.arrays c.args.table.now c.loop-i.stack.items) c.loop-i.invariant
    (omega (arith, c.loop-i-test.false)) (λ e. absurd (omega (arith, e, c.if-told-eq0.false)))
