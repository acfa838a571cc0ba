use Rattle.std.proofs.Common.{rules}
use Rattle.alias_applications.specs.Rules.{captured_argument}
use Rattle.alias_applications.proofs.RuleForms.{first_here}
use Rattle.alias_applications.proofs.rules.first_captured.Goals as goal

pub returns-then-is_some : goal.returns-then-is_some
returns-then-is_some c = first_here (captured_argument c.args.here.now.function_from) c.args.all.now c.loop-i.i c.loop-i.invariant c.index-all-i.result c.in_ok-broken.broken c.loop-i-test.true (rw (← c.index-all-i.is) c.in_ok-broken.ensures) (search rules)
