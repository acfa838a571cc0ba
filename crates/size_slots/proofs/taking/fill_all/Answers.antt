use Rattle.std.proofs.Common.{arith}
use Rattle.size_slots.proofs.FillForms.{filling_next}
use Rattle.size_slots.proofs.taking.fill_all.Goals as goal

pub loop-at-preserved : goal.loop-at-preserved
loop-at-preserved c = filling_next _ _ _ _ _ _ _ _ c.as_slice.ensures c.loop-at.invariant (omega (arith, c.loop-at-test.true, c.len.ensures)) c.in_ok-after.ensures c.set.ensures
