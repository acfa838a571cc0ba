use Rattle.std.proofs.Common.{arith}
use Rattle.block_store.proofs.Reading.{one_place, down}
use Rattle.block_store.proofs.places.innermost.Goals as goal

pub loop-k-init : goal.loop-k-init
loop-k-init c = λ words. one_place words c.args.strides.now c.args.shape.now c.args.offset c.new-places.result c.push.new.self c.new-places.ensures c.in_ok-push.ensures.ok

pub loop-k-preserved : goal.loop-k-preserved
loop-k-preserved c = λ words. down words c.loop-k.k c.args.strides.now c.args.shape.now c.loop-k.places c.as_slice.result.now c.in_ok-places.places c.step_at.result _ (omega arith) (omega arith) c.step_at.ensures c.as_slice.ensures c.in_ok-places.ensures (c.loop-k.invariant words)
