use Rattle.unfold_laws.proofs.Closing.{types_may_be_closed}
use Rattle.unfold_laws.proofs.laws.types_may_be_closed.Goals as goal

pub returns : goal.returns
returns c = types_may_be_closed
