use Rattle.type_answers.proofs.Richness.{rich}
use Rattle.type_answers.proofs.names_have_records.Goals as goal

pub returns : goal.returns
returns c = rich
