use Rattle.alias_loops.proofs.LowestForms.{or_else, or_then, others_are}
use Rattle.alias_loops.proofs.lowest.is_other_first.Goals as goal

pub returns-then-is_first : goal.returns-then-is_first
returns-then-is_first c = or_then _ _ _ _ c.if-is_first.true c.is_first.ensures (others_are c.args.alias c.args.before.now c.args.behind.now)

pub returns-else-is_first : goal.returns-else-is_first
returns-else-is_first c = or_else _ _ _ _ _ c.if-is_first.false c.is_first.ensures c.is_first-else-is_first.ensures (others_are c.args.alias c.args.before.now c.args.behind.now)
