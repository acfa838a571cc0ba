use Rattle.lowering.proofs.WellFormed.{gives_well_formed}
use Rattle.lowering.proofs.laws.lowering_gives_well_formed.Goals as goal

pub returns : goal.returns
returns c = gives_well_formed
