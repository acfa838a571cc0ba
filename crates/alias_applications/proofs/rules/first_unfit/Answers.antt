use Rattle.std.proofs.Common.{rules}
use Rattle.alias_applications.specs.Rules.{unfit}
use Rattle.alias_applications.proofs.RuleForms.{first_here}
use Rattle.alias_applications.proofs.rules.first_unfit.Goals as goal

pub returns-then-is_some : goal.returns-then-is_some
returns-then-is_some c = first_here (unfit c.args.here.now.fixed.now c.args.here.now.loop_from) c.args.all.now c.loop-i.i c.loop-i.invariant c.index-all-i.result c.in_ok-broken.broken c.loop-i-test.true (rw (← c.index-all-i.is) c.in_ok-broken.ensures) (search rules)
