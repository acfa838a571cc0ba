use Rattle.std.proofs.Common.{sym, ◌∙◌, arith}
use Rattle.unfold_parts.proofs.Pairing.{names_on, names_end, names_many, names_other}
use Rattle.unfold_parts.proofs.equality.same_names.Goals as goal

pub loop-left-preserved : goal.loop-left-preserved
loop-left-preserved c = (omega (arith, c.loop-left.invariant.0), names_on _ _ _ _ _ _ c.loop-left-test.true (omega (arith, c.loop-left.invariant.0, c.loop-left-test.true, c.if-lefts-rights.false)) (sym c.eq.ensures ∙ c.if-eq.true) c.loop-left.invariant.1)

pub returns : goal.returns
returns c = names_end _ _ c.loop-left.left-index c.loop-left.at (omega (arith, c.loop-left-test.false)) (omega (arith, c.loop-left.invariant.0, c.loop-left-test.false, c.if-lefts-rights.false)) c.loop-left.invariant.1

pub returns-then-lefts-rights : goal.returns-then-lefts-rights
returns-then-lefts-rights c = names_many _ _ c.if-lefts-rights.true

pub returns-else-eq : goal.returns-else-eq
returns-else-eq c = names_other _ _ _ _ _ _ c.loop-left.invariant.0 c.loop-left-test.true (omega (arith, c.loop-left.invariant.0, c.loop-left-test.true, c.if-lefts-rights.false)) (sym c.eq.ensures ∙ c.if-eq.false)
