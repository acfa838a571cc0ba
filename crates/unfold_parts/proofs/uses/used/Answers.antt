use Rattle.unfold_parts.proofs.Using.{used_as, used_primitive, used_type}
use Rattle.unfold_parts.proofs.uses.used.Goals as goal

pub returns-in-Bound : goal.returns-in-Bound
returns-in-Bound c = used_as _ _ _ _ _ _ _ _ _ _ _ c.in-Bound.is (c.name_used.ensures _)

pub returns-in-Prim : goal.returns-in-Prim
returns-in-Prim c = used_primitive _ _ _ _ _ _ _ _ _ c.in-Prim.is c.use_of_primitive.ensures

pub returns-in-Scalar : goal.returns-in-Scalar
returns-in-Scalar c = used_type _ _ _ _ _ _ _ _ c.in-Scalar.is
