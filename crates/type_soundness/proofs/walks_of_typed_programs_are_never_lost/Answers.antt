use Rattle.type_soundness.proofs.Unlost.{sized_walks_never_lost}
use Rattle.type_soundness.proofs.walks_of_typed_programs_are_never_lost.Goals as goal

pub returns : goal.returns
returns c = sized_walks_never_lost
