use Rattle.sized_meaning.proofs.Finding.{found_is_right}
use Rattle.sized_meaning.proofs.laws.found_is_right.Goals as goal

pub returns : goal.returns
returns c = found_is_right
