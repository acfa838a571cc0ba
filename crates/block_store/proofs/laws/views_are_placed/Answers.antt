use Rattle.block_store.proofs.Standing.{views_placed}
use Rattle.block_store.proofs.laws.views_are_placed.Goals as goal

pub returns : goal.returns
returns c = views_placed
