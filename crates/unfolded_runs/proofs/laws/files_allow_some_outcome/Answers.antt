use Rattle.unfolded_runs.proofs.Runs.{files_allow_some}
use Rattle.unfolded_runs.proofs.laws.files_allow_some_outcome.Goals as goal

pub returns : goal.returns
returns c = files_allow_some
