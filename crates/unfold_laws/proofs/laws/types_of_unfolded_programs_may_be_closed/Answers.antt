use Rattle.unfold_laws.proofs.Closing.{unfolded_closed}
use Rattle.unfold_laws.proofs.laws.types_of_unfolded_programs_may_be_closed.Goals as goal

pub returns : goal.returns
returns c = unfolded_closed
