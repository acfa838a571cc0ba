use Rattle.std.proofs.Common.{refl}
use Rattle.elab_scopes.proofs.Ways.{module_at_is}
use Rattle.elab_scopes.proofs.inside.module_at.Goals as goal

pub returns-in-Some : goal.returns-in-Some
returns-in-Some c = module_at_is _ _ _ _ _ _ _ c.in-Some.ensures c.module_inside.ensures

pub returns-in-None : goal.returns-in-None
returns-in-None c = module_at_is _ _ _ _ _ _ _ c.in-None.ensures refl
