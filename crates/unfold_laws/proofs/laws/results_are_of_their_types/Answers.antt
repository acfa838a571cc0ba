use Rattle.unfold_laws.proofs.ResultTypes.{results_are_of}
use Rattle.unfold_laws.proofs.laws.results_are_of_their_types.Goals as goal

pub returns : goal.returns
returns c = results_are_of
