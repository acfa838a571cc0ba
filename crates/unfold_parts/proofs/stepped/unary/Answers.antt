use Rattle.unfold_parts.proofs.Operated.{unary_ok, unary_none}
use Rattle.unfold_parts.proofs.stepped.unary.Goals as goal

pub returns-in-Some : goal.returns-in-Some
returns-in-Some c = unary_ok _ _ _ _ _ _ _ _ c.in-Some.ensures c.computed.ensures

pub returns-in-None : goal.returns-in-None
returns-in-None c = unary_none _ _ _ _ _ _ c.in-None.ensures
