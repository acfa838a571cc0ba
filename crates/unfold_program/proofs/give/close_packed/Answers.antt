use Rattle.std.proofs.Common.{refl}
use Rattle.unfold_program.proofs.Growing.{packed_block, packed_block_err, unpacked_block}
use Rattle.unfold_program.proofs.give.close_packed.Goals as goal

pub returns-in-Ok-close_scalar : goal.returns-in-Ok-close_scalar
returns-in-Ok-close_scalar c = packed_block _ _ _ c.pack.new.work _ _ _ _ c.in-Ok.ensures refl refl c.in-Ok-close_scalar.ensures

pub returns-in-Err-close_scalar : goal.returns-in-Err-close_scalar
returns-in-Err-close_scalar c = packed_block_err _ _ _ c.pack.new.work _ c.in-Ok.atom _ _ c.in-Err-close_scalar.ensures

pub returns-in-Err : goal.returns-in-Err
returns-in-Err c = unpacked_block _ _ _ c.pack.new.work _ _ c.in-Err.ensures
