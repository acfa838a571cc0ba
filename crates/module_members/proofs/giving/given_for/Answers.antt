use Rattle.std.proofs.Common.{refl, sym, ◌∙◌}
use Rattle.module_members.proofs.GivenLaws.{is_given, none_given, not_here}
use Rattle.module_members.proofs.giving.given_for.Goals as goal

pub returns-then-is_here : goal.returns-then-is_here
returns-then-is_here c = is_given _ _ _ _ c.loop-one-test.true c.loop-one.invariant (sym c.is_here.ensures ∙ c.if-is_here.true)

pub loop-one-preserved : goal.loop-one-preserved
loop-one-preserved c = not_here _ _ _ _ c.loop-one-test.true c.loop-one.invariant (sym c.is_here.ensures ∙ c.if-is_here.false)

pub returns : goal.returns
returns c = none_given _ _ _ c.loop-one-test.false c.loop-one.invariant
