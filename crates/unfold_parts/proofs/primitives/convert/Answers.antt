use Rattle.unfold_parts.proofs.Operated.{convert_ok, convert_none}
use Rattle.unfold_parts.proofs.primitives.convert.Goals as goal

pub returns-in-Some : goal.returns-in-Some
returns-in-Some c = convert_ok _ _ _ _ _ _ _ _ _ _ c.in-Some.ensures c.computed.ensures

pub returns-in-None : goal.returns-in-None
returns-in-None c = convert_none _ _ _ _ _ _ _ _ c.in-None.ensures
