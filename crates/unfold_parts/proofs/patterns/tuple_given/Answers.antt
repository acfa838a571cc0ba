use Rattle.unfold_parts.proofs.Binding.{tuple_parts, component_given, tuple_other}
use Rattle.unfold_parts.proofs.Forms.{form_no_tuple, form_no_scalar}
use Rattle.unfold_parts.proofs.patterns.tuple_given.Goals as goal

pub returns-in-Tuple : goal.returns-in-Tuple
returns-in-Tuple c = tuple_parts _ _ _ _ _ c.in-Tuple.is

pub returns-in-Scalar : goal.returns-in-Scalar
returns-in-Scalar c = component_given _ _ _ _ _ _ _ _ c.in-Scalar.is c.opened.ensures

pub returns-in_default : goal.returns-in_default
returns-in_default c = tuple_other _ _ _ _ _ _ (form_no_tuple _ c.in_default.not-Tuple) (form_no_scalar _ c.in_default.not-Scalar)
