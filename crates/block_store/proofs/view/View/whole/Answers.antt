use Rattle.std.proofs.Common.{refl}
use Rattle.block_store.proofs.Wholes.{is_whole}
use Rattle.block_store.proofs.view.View.whole.Goals as goal

pub returns : goal.returns
returns c = is_whole _ c.args.block c.args.sizes.now refl refl c.in_ok-strides.ensures c.in_ok-shape.ensures
