use Rattle.std.proofs.Common.{sym, ◌∙◌}
use Rattle.fut_aliases.specs.Loops.{given_loss}
use Rattle.alias_loops.proofs.StepForms.{broken_here, broken_more}
use Rattle.alias_loops.proofs.steps.first_given_loss.Goals as goal

pub returns-then-is_some : goal.returns-then-is_some
returns-then-is_some c = broken_here (given_loss c.args.losses.now c.args.from c.args.body) c.args.carried.now c.loop-i.i _ _ c.loop-i-test.true c.given_loss-broken.ensures (sym c.is_some.ensures ∙ c.if-is_some.true) c.loop-i.invariant

pub loop-i-preserved : goal.loop-i-preserved
loop-i-preserved c = broken_more (given_loss c.args.losses.now c.args.from c.args.body) c.args.carried.now c.loop-i.i _ _ c.loop-i-test.true c.given_loss-broken.ensures (sym c.is_some.ensures ∙ c.if-is_some.false) c.loop-i.invariant
