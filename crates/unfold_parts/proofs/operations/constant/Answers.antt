use Rattle.std.proofs.Common.{refl, arith}
use Rattle.unfold_parts.proofs.Operated.{constant_is, constant_many}
use Rattle.unfold_parts.proofs.operations.constant.Goals as goal

pub returns-in-empty : goal.returns-in-empty
returns-in-empty c = constant_is _ _ _ (omega (arith, c.in-empty.len_below)) refl

pub returns-in_default : goal.returns-in_default
returns-in_default c = constant_many _ _ (λ e. omega (arith, e))
