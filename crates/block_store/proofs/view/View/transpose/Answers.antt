use Rattle.std.proofs.Common.{refl}
use Rattle.block_store.proofs.Turning.{shows_transpose}
use Rattle.block_store.proofs.view.View.transpose.Goals as goal

pub returns-clause-shows : goal.returns-clause-shows
returns-clause-shows c = shows_transpose c.args.self.now _ c.requires.placed c.requires.levels refl refl c.swap_strides.ensures c.swap_sizes.ensures
