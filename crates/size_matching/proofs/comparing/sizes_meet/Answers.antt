use Rattle.size_matching.proofs.Steps.{still_held}
use Rattle.size_matching.proofs.comparing.sizes_meet.Goals as goal

pub returns-clause-held : goal.returns-clause-held
returns-clause-held c = still_held _ _ _ _ c.requires c.meet_dims.ensures
