use Rattle.unfold_laws.proofs.Unstuck.{unfolded_well_typed}
use Rattle.unfold_laws.proofs.laws.unfolded_programs_are_well_typed.Goals as goal

pub returns : goal.returns
returns c = unfolded_well_typed
