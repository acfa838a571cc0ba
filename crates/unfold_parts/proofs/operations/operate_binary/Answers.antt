use Rattle.std.proofs.Common.{refl}
use Rattle.unfold_parts.proofs.Operated.{binary_is, equal_is, equal_err, unequal_is, unequal_err}
use Rattle.unfold_parts.proofs.operations.operate_binary.Goals as goal

pub returns-in-Ok : goal.returns-in-Ok
returns-in-Ok c t = equal_is _ _ _ _ _ _ _ t _ _ c.in-Eq.is c.in-Ok.ensures refl

pub returns-in-Err : goal.returns-in-Err
returns-in-Err c t = equal_err _ _ _ _ _ _ _ t _ _ _ c.in-Eq.is c.in-Err.ensures

pub returns-in-Ok-both_equal : goal.returns-in-Ok-both_equal
returns-in-Ok-both_equal c t = unequal_is _ _ _ _ _ _ _ t _ _ _ _ c.in-Ne.is c.in-Ok-both_equal.ensures c.computed.ensures

pub returns-in-Err-both_equal : goal.returns-in-Err-both_equal
returns-in-Err-both_equal c t = unequal_err _ _ _ _ _ _ _ t _ _ _ c.in-Ne.is c.in-Err-both_equal.ensures

pub returns-in_default : goal.returns-in_default
returns-in_default c t = binary_is _ _ _ _ _ _ t _ _ c.in_default.not-Eq c.in_default.not-Ne c.binary.ensures
