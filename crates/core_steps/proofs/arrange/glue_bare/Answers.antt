use Rattle.std.proofs.Common.{[], ◌∷◌, ◌++◌, ◌∙◌, ap, arith}
use Rattle.core_arrays.specs.Arenas.{with_array}
use Rattle.core_code.specs.Registers.{state}
use Rattle.core_steps.proofs.Glueing.{bare_ok}
use Rattle.core_steps.proofs.arrange.glue_bare.Goals as goal

pub returns : goal.returns
returns c table =
    bare_ok c.args.count c.args.mark c.args.place (state c.args.arrays.now table c.args.stack.now.items) (state c.put.new.self table c.push-3.new.stack.items) c.push-2.new.self c.truncate.new.self.items c.in_ok-number.number c.push-3.result
    (omega (arith, c.if-count-gt-GREATEST_WEIGHT.false)) (c.in_ok-push-2.ensures.ok ∙ ap (λ z. z ++ 0 ∷ []) (c.in_ok-push.ensures.ok ∙ ap (λ z. z ++ c.args.count ∷ []) c.new-sizes.ensures)) c.in_ok-number.ensures.number
    (c.in_ok-number.ensures.put ∙ ap (with_array c.args.arrays.now c.push-2.new.self) c.new.ensures) c.truncate.ensures.items c.push-3.ensures.told
