use Rattle.fut_aliases.specs.Steps.{behind}
use Rattle.alias_losses.specs.Tellings.{told}
use Rattle.alias_losses.proofs.Losing.{lost_here}
use Rattle.alias_losses.proofs.losses.Losses.lost.Goals as goal

pub returns-in-Some : goal.returns-in-Some
returns-in-Some c = lost_here (behind c.args.count c.args.self.now) (told c.args.telling) c.args.used c.args.set.now c.loop-i.i c.loop-i.invariant _ c.in-Some.at c.of.result c.loop-i-test.true c.in-Some.ensures c.of.ensures
