use Rattle.unfold_parts.proofs.Operated.{binary_ok, binary_none}
use Rattle.unfold_parts.proofs.stepped.binary.Goals as goal

pub returns-in-Some : goal.returns-in-Some
returns-in-Some c = binary_ok _ _ _ _ _ _ _ _ _ c.in-Some.ensures c.computed.ensures

pub returns-in-None : goal.returns-in-None
returns-in-None c = binary_none _ _ _ _ _ _ _ c.in-None.ensures
