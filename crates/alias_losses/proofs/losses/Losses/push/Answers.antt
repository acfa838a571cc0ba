use Rattle.std.proofs.Common.{rules}
use Rattle.alias_losses.proofs.Keeping.{chained_pushed}
use Rattle.alias_losses.proofs.losses.Losses.push.Goals as goal

pub invariant_of-self-2 : goal.invariant_of-self-2
invariant_of-self-2 c = chained_pushed c.self.inside.entries _ c.self.inside.newest _ _ c.args.loss _ _ _ c.self.invariant (search rules) c.node_of-node.ensures (search rules) c.in_ok-reach.ensures.kept c.in_ok-reach.ensures.room (search rules) c.in_ok-push.ensures.ok c.set.ensures
