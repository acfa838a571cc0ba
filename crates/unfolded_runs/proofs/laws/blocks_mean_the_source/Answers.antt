use Rattle.unfolded_runs.proofs.Runs.{blocks_mean_the_source}
use Rattle.unfolded_runs.proofs.laws.blocks_mean_the_source.Goals as goal

pub returns : goal.returns
returns c = blocks_mean_the_source
