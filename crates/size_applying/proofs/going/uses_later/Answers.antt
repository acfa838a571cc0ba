use Rattle.size_applying.proofs.GoingForms.{used_more, used_end}
use Rattle.size_applying.proofs.going.uses_later.Goals as goal

pub loop-wanting-preserved : goal.loop-wanting-preserved
loop-wanting-preserved c = record {
  used = used_more c.args.wantings.now c.args.later.now c.loop-wanting.later c.use_later.new.later c.loop-wanting.wanting-index c.loop-wanting.invariant.used c.wanting-item.result c.loop-wanting-test.true (rw (← c.wanting-item.is) c.in_ok-use_later.ensures.later);
  chained = λ h. c.in_ok-use_later.ensures.chained (c.loop-wanting.invariant.chained h);
}

pub returns-clause-later : goal.returns-clause-later
returns-clause-later c = used_end c.args.wantings.now c.args.later.now c.loop-wanting.later c.loop-wanting.wanting-index c.loop-wanting.invariant.used c.loop-wanting-test.false
