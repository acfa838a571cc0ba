use Rattle.alias_applications.specs.Givens.{given_of}
use Rattle.alias_applications.proofs.RuleForms.{starred_some, starred_none}
use Rattle.alias_applications.proofs.rules.starred_argument.Goals as goal

pub returns-then-starred : goal.returns-then-starred
returns-then-starred c = starred_some c.args.called (given_of c.args.one.now) c.in_ok-starred.starred c.in_ok-starred.ensures c.if-starred.true

pub returns-else-starred : goal.returns-else-starred
returns-else-starred c = starred_none c.args.called (given_of c.args.one.now) c.in_ok-starred.starred c.in_ok-starred.ensures c.if-starred.false
