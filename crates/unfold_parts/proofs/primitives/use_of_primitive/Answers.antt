use Rattle.std.proofs.Common.{refl}
use Rattle.unfold_parts.proofs.Using.{used_function}
use Rattle.unfold_parts.proofs.primitives.use_of_primitive.Goals as goal

pub returns-in_default : goal.returns-in_default
returns-in_default c = used_function _ _ _ _ c.in_default.not-Lowest c.in_default.not-Highest c.in_default.not-NumBits refl refl
