use Rattle.std.proofs.Common.{◌∙◌}
use Rattle.alias_losses.proofs.Losing.{later_more, later_end}
use Rattle.alias_losses.proofs.chains.later.Goals as goal

pub later-preserved : goal.later-preserved
later-preserved c = later_more c.args.entries.now c.later.at c.args.count c.later.losses.items c.later.invariant _ c.push.new.self.items c.later-test.true c.in_ok-push.ensures.items

pub returns : goal.returns
returns c = c.into_bump_slice.ensures ∙ later_end c.args.entries.now c.later.at c.args.count c.later.losses.items c.later.invariant c.later-test.false
