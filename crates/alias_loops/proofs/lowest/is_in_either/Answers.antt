use Rattle.alias_loops.proofs.LowestForms.{either_is, or_else, or_then}
use Rattle.alias_loops.proofs.lowest.is_in_either.Goals as goal

pub returns-then-is_in_some : goal.returns-then-is_in_some
returns-then-is_in_some c = or_then _ _ _ _ c.if-is_in_some.true c.is_in_some.ensures (either_is c.args.alias c.args.before.now c.args.behind.now)

pub returns-else-is_in_some : goal.returns-else-is_in_some
returns-else-is_in_some c = or_else _ _ _ _ _ c.if-is_in_some.false c.is_in_some.ensures c.is_in_some-else-is_in_some.ensures (either_is c.args.alias c.args.before.now c.args.behind.now)
