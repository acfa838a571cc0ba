use Rattle.unfold_measure.specs.Plain.{bare}
use Rattle.unfold_measure.proofs.Peeling.{peel_declared, peel_lets, plain_strict, plain_lets, plain_other, is_not}
use Rattle.unfold_measure.proofs.peel.+peeled.Goals as goal

pub returns-then-not-is_declared-clause-peels : goal.returns-then-not-is_declared-clause-peels
returns-then-not-is_declared-clause-peels t c = bare

pub returns-then-parts-eq1-clause-peels : goal.returns-then-parts-eq1-clause-peels
returns-then-parts-eq1-clause-peels t c = peel_declared _ _ _ _ _ _ c.in-Strict.is (is_not c.is_declared.ensures c.if-not-is_declared.false) c.if-parts-eq1.true c.peeled.ensures.peels

pub returns-else-parts-eq1-clause-peels : goal.returns-else-parts-eq1-clause-peels
returns-else-parts-eq1-clause-peels t c = bare

pub returns-else-parts-eq1-clause-plain : goal.returns-else-parts-eq1-clause-plain
returns-else-parts-eq1-clause-plain t c = plain_strict _ _ _ _ c.in-Strict.is (λ h one. c.if-parts-eq1.false one)

pub returns-then-lets-eq0-clause-peels : goal.returns-then-lets-eq0-clause-peels
returns-then-lets-eq0-clause-peels t c = peel_lets _ _ _ _ c.in-Lets.is c.if-lets-eq0.true c.peeled-then-lets-eq0.ensures.peels

pub returns-else-lets-eq0-clause-peels : goal.returns-else-lets-eq0-clause-peels
returns-else-lets-eq0-clause-peels t c = bare

pub returns-else-lets-eq0-clause-plain : goal.returns-else-lets-eq0-clause-plain
returns-else-lets-eq0-clause-plain t c = plain_lets _ _ _ c.in-Lets.is c.if-lets-eq0.false

pub returns-in_default : goal.returns-in_default
returns-in_default t c = record { peels = bare; plain = plain_other _ (λ a mark es is. c.in_default.not-Strict a mark es is) (λ ls b is. c.in_default.not-Lets ls b is) }
