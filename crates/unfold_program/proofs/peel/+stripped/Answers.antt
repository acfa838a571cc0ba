use Rattle.std.proofs.Common.{◌∙◌, sym}
use Rattle.unfold_program.specs.Answers.{not_peeled}
use Rattle.unfold_program.proofs.Peeling.{peel_declared, peel_lets}
use Rattle.unfold_program.proofs.peel.+stripped.Goals as goal

pub returns-in-Err-clause-peeled : goal.returns-in-Err-clause-peeled
returns-in-Err-clause-peeled t c = not_peeled

pub returns-then-parts-eq1-clause-peeled : goal.returns-then-parts-eq1-clause-peeled
returns-then-parts-eq1-clause-peeled t c = peel_declared _ _ _ _ _ _ _ _ c.in-Strict.is (sym c.is_declared.ensures ∙ c.if-not-is_declared.false) c.if-parts-eq1.true c.in-Ok.ensures c.stripped.ensures.peeled

pub returns-then-row-eq0-clause-peeled : goal.returns-then-row-eq0-clause-peeled
returns-then-row-eq0-clause-peeled t c = peel_lets _ _ _ _ _ c.in-Lets.is c.if-row-eq0.true c.stripped-then-row-eq0.ensures.peeled
