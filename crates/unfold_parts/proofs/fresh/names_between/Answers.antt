use Rattle.std.proofs.Common.{◌++◌, ◌∷◌, [], sym, ap, ◌∙◌, arith}
use Rattle.unfold_parts.proofs.Naming.{number_more}
use Rattle.unfold_parts.proofs.fresh.names_between.Goals as goal

pub loop-name-preserved : goal.loop-name-preserved
loop-name-preserved c = (omega (arith, c.loop-name.invariant.0), omega (arith, c.loop-name-test.true, c.loop-name.invariant.0), c.in-Ok.ensures.items ∙ ap (λ z. z ++ c.loop-name.name ∷ []) c.loop-name.invariant.2 ∙ sym (number_more _ _ c.loop-name.invariant.0))
