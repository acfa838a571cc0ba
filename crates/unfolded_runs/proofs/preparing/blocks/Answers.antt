use Rattle.std.proofs.Common.{refl}
use Rattle.unfolded_runs.proofs.Blocks.{never_lost}
use Rattle.unfolded_runs.proofs.preparing.blocks.Goals as goal

pub unreachable-requires : goal.unreachable-requires
unreachable-requires c = never_lost c.args.flat.now c.args.integers.now _ c.args.params.now c.args.sizes c.requires.told _ _ _ _ refl refl c.in-Ok.ensures c.in-Ok-try_alloc_slice_copy.ensures c.in-Err-Lost.field-0-is c.in-Err-Lost.ensures
