use Rattle.alias_applications.specs.Rules.{components_of}
use Rattle.alias_applications.proofs.ResultForms.{in_first, in_second}
use Rattle.alias_applications.proofs.bodies.is_in_others.Goals as goal

pub returns-then-is_in_some : goal.returns-then-is_in_some
returns-then-is_in_some c = in_first c.args.alias (components_of c.args.before.now) (components_of c.args.behind.now) c.is_in_some.result c.is_in_some.ensures c.if-is_in_some.true

pub returns : goal.returns
returns c = in_second c.args.alias (components_of c.args.before.now) (components_of c.args.behind.now) c.is_in_some.result c.is_in_some-2.result c.is_in_some.ensures c.if-is_in_some.false c.is_in_some-2.ensures
