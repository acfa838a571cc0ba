use Rattle.block_store.proofs.Standing.{blocks_apart}
use Rattle.block_store.proofs.laws.blocks_are_apart.Goals as goal

pub returns : goal.returns
returns c = blocks_apart
