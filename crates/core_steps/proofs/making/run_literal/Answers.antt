use Rattle.std.proofs.Common.{refl, arith}
use Rattle.core_code.specs.Registers.{state}
use Rattle.core_steps.proofs.Literals.{literal_ok}
use Rattle.core_steps.proofs.making.run_literal.Goals as goal

pub returns : goal.returns
returns c =
    literal_ok c.args.rows.now c.args.place (state c.args.arrays.now c.args.table.now c.args.stack.now.items) (state c.glue.new.arrays c.args.table.now c.glue.new.stack.items) _ c.push_rows.new.stack.items _ c.len-mark.result c.glue.result
    (λ e. absurd (omega (arith, e, c.if-rows-eq0.false))) refl (omega (arith, c.len-mark.ensures, c.args.stack.now.ok.0)) c.in_ok-push_rows.ensures.told (c.glue.ensures c.args.table.now)
