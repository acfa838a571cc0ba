use Rattle.std.proofs.Common.{refl}
use Rattle.unfold_measure.proofs.Mirror.{known_data as is_known_data}
use Rattle.unfold_measure.proofs.known.known_data.Goals as goal

pub returns : goal.returns
returns c = is_known_data _ refl
