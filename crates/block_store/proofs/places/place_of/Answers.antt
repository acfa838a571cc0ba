use Rattle.std.proofs.Common.{arith, refl}
use Rattle.block_store.proofs.Placing.{left_more, left_end}
use Rattle.block_store.proofs.places.place_of.Goals as goal

pub loop-k-init : goal.loop-k-init
loop-k-init c = λ n ns l each index. record { rest = ns; each = each; index = index; same = refl }

pub loop-k-preserved : goal.loop-k-preserved
loop-k-preserved c = λ n ns l each index. left_more n c.loop-k.place c.moved-place.result c.loop-k.k c.step_at.result c.args.strides.now c.args.at.now _ l (omega arith) (omega arith) c.step_at.ensures c.moved-place.ensures (c.loop-k.invariant n ns l each index)

pub returns : goal.returns
returns c = λ n ns l each index. left_end n c.loop-k.place c.loop-k.k c.args.strides.now c.args.at.now _ (omega arith) (c.loop-k.invariant n ns l each index)
