use Rattle.elab_types.proofs.BindLaws.{heads_made, made_stops}
use Rattle.elab_types.proofs.binds.numbered_heads.Goals as goal

pub returns-in-Ok : goal.returns-in-Ok
returns-in-Ok c = heads_made _ _ _ _ _ _ _ _ _ c.into_bump_slice.ensures c.into_bump_slice-2.ensures c.in-Ok.is c.each_head-walked.ensures

pub returns-in-Err : goal.returns-in-Err
returns-in-Err c = made_stops _ _ _ _ _ c.in-Err.is c.each_head-walked.ensures
