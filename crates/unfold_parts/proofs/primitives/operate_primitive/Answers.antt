use Rattle.unfold_parts.proofs.Operated.{primitive_convert, primitive_min, primitive_max, primitive_abs, primitive_popc, primitive_other}
use Rattle.unfold_parts.proofs.primitives.operate_primitive.Goals as goal

pub returns-in-Convert : goal.returns-in-Convert
returns-in-Convert c = primitive_convert _ _ _ _ _ _ _ _ _ _ c.in-Convert.is c.convert.ensures

pub returns-in-Min : goal.returns-in-Min
returns-in-Min c = primitive_min _ _ _ _ _ _ _ _ _ c.in-Min.is c.binary.ensures

pub returns-in-Max : goal.returns-in-Max
returns-in-Max c = primitive_max _ _ _ _ _ _ _ _ _ c.in-Max.is c.binary-in-Max.ensures

pub returns-in-Abs : goal.returns-in-Abs
returns-in-Abs c = primitive_abs _ _ _ _ _ _ _ _ _ c.in-Abs.is c.unary.ensures

pub returns-in-Popc : goal.returns-in-Popc
returns-in-Popc c = primitive_popc _ _ _ _ _ _ _ _ _ c.in-Popc.is c.unary-in-Popc.ensures

pub returns-in_default : goal.returns-in_default
returns-in_default c = primitive_other _ _ _ _ _ _ _ c.in_default.not-Convert c.in_default.not-Min c.in_default.not-Max c.in_default.not-Abs c.in_default.not-Popc
