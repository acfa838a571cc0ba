use Rattle.std.proofs.Common.{refl, arith}
use Rattle.unfold_parts.proofs.Forms.{form_no_record, form_no_scalar}
use Rattle.unfold_parts.proofs.Operated.{replace_ok, replace_many, replace_other, replace_changed, replace_err}
use Rattle.unfold_parts.proofs.operations.replace.Goals as goal

pub returns-then-parts-ne2 : goal.returns-then-parts-ne2
returns-then-parts-ne2 c = replace_many _ _ _ _ _ _ _ _ c.if-parts-ne2.true

pub returns-in-Scalar : goal.returns-in-Scalar
returns-in-Scalar c = replace_changed _ _ _ _ _ _ _ _ _ _ _ _ (omega (arith, c.if-parts-ne2.false)) c.in-Scalar.is c.changed.ensures

pub returns-in-Ok : goal.returns-in-Ok
returns-in-Ok c = replace_ok _ _ _ _ _ _ _ _ _ _ _ (omega (arith, c.if-parts-ne2.false)) c.in-Record.is refl c.in-Ok.ensures.ok

pub returns-in-Err : goal.returns-in-Err
returns-in-Err c = replace_err _ _ _ _ _ _ _ _ _ c.in-Err.ensures.err

pub returns-in_default : goal.returns-in_default
returns-in_default c = replace_other _ _ _ _ _ _ _ _ _ (omega (arith, c.if-parts-ne2.false)) (form_no_record _ c.in_default.not-Record) (form_no_scalar _ c.in_default.not-Scalar)
