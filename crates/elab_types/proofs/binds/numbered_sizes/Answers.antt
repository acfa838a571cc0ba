use Rattle.elab_types.proofs.BindLaws.{made_stops, sizes_made}
use Rattle.elab_types.proofs.binds.numbered_sizes.Goals as goal

pub returns-in-Ok : goal.returns-in-Ok
returns-in-Ok c = sizes_made _ _ _ _ _ _ _ _ _ c.into_bump_slice.ensures c.into_bump_slice-2.ensures c.in-Ok.is c.each_size-walked.ensures

pub returns-in-Err : goal.returns-in-Err
returns-in-Err c = made_stops _ _ _ _ _ c.in-Err.is c.each_size-walked.ensures
