use Rattle.std.proofs.Common.{sym, ◌∙◌, arith}
use Rattle.alias_loops.specs.Rules.{outside_loss}
use Rattle.alias_loops.proofs.StepForms.{alias_more, given_end, given_here}
use Rattle.alias_loops.proofs.steps.given_loss.Goals as goal

pub returns-then-is_some : goal.returns-then-is_some
returns-then-is_some c = given_here c.args.losses.now c.args.from c.args.body c.args.one.now c.loop-i.i _ _ c.loop-i-test.true c.outside_loss-broken.ensures (sym c.is_some.ensures ∙ c.if-is_some.true) c.loop-i.invariant

pub loop-i-preserved : goal.loop-i-preserved
loop-i-preserved c = alias_more (outside_loss c.args.losses.now c.args.from c.args.body) c.args.one.now.gives.now c.loop-i.i _ _ c.loop-i-test.true c.outside_loss-broken.ensures (sym c.is_some.ensures ∙ c.if-is_some.false) c.loop-i.invariant

pub returns : goal.returns
returns c = given_end c.args.losses.now c.args.from c.args.body c.args.one.now c.loop-i.i (omega (arith, c.loop-i-test.false)) c.loop-i.invariant
