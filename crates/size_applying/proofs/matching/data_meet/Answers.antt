use Rattle.size_applying.proofs.MatchingForms.{met_start, met_more, met_stop, met_end}
use Rattle.size_applying.proofs.matching.data_meet.Goals as goal

pub loop-wanting-init : goal.loop-wanting-init
loop-wanting-init c = record { held = c.requires; far = met_start _ _ }

pub loop-wanting-preserved : goal.loop-wanting-preserved
loop-wanting-preserved c = record {
  held = c.in-Ok.ensures.held;
  far = met_more _ _ _ _ c.loop-wanting.invariant.far c.wanting-item.result _ _ c.loop-wanting-test.true (rw (← c.wanting-item.is) c.datum_meets.ensures.met) tt c.in-Ok.is;
}

pub returns-in-Err-clause-met : goal.returns-in-Err-clause-met
returns-in-Err-clause-met c = met_stop _ _ _ _ c.loop-wanting.invariant.far c.wanting-item.result _ _ c.loop-wanting-test.true (rw (← c.wanting-item.is) c.datum_meets.ensures.met) c.in-Err.error c.in-Err.is

pub returns-clause-met : goal.returns-clause-met
returns-clause-met c = met_end _ _ _ _ c.loop-wanting.invariant.far c.loop-wanting-test.false
