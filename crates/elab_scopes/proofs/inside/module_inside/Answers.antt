use Rattle.std.proofs.Common.{refl, ap}
use Rattle.elab_scopes.specs.Names.{NoMember}
use Rattle.elab_scopes.specs.Scopes.{module_or}
use Rattle.elab_scopes.proofs.Ways.{module_by, module_empty}
use Rattle.elab_scopes.proofs.inside.module_inside.Goals as goal

pub returns-in-empty : goal.returns-in-empty
returns-in-empty c = module_empty _ _ _ _ c.in-empty.len_below

pub returns-in-Err : goal.returns-in-Err
returns-in-Err c = module_by _ _ _ _ _ _ _ c.in-len1-up.len_at_least c.in-Err.ensures refl

pub returns-in-Some : goal.returns-in-Some
returns-in-Some c = module_by _ _ _ _ _ _ _ c.in-len1-up.len_at_least c.in-Ok.ensures (ap (module_or (NoMember c.in-Ok.holder.name.now c.args.at)) c.in-Some.ensures)

pub returns-in-None : goal.returns-in-None
returns-in-None c = module_by _ _ _ _ _ _ _ c.in-len1-up.len_at_least c.in-Ok.ensures (ap (module_or (NoMember c.in-Ok.holder.name.now c.args.at)) c.in-None.ensures)
