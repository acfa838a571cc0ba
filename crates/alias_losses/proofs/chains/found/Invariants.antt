use Rattle.alias_losses.proofs.Finding.{Walk}
use Rattle.alias_losses.proofs.chains.found.Given as goal

abbrev pub invariant-chain : goal.invariant-chain
invariant-chain l = Walk l.count l.alias l.entries l.at

abbrev pub decreases-chain : goal.decreases-chain
decreases-chain l = l.at
