use Rattle.futhark_core.proofs.Completing.{complete}
use Rattle.futhark_core.proofs.run.run_command.Goals as goal

pub returns-clause-complete : goal.returns-clause-complete
returns-clause-complete g c = complete _ _ _ _ c.run_stages-status.ensures
