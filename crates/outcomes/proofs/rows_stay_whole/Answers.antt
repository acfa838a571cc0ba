use Rattle.outcomes.proofs.Winners.{rows_stay_whole}
use Rattle.outcomes.proofs.rows_stay_whole.Goals as goal

pub returns : goal.returns
returns c = rows_stay_whole
