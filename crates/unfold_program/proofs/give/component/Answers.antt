use Rattle.std.proofs.Common.{refl}
use Rattle.unfold.proofs.Mirror.{known_scalar}
use Rattle.unfold_program.proofs.give.component.Goals as goal

pub returns : goal.returns
returns c = known_scalar _ _ refl
