use Rattle.std.proofs.Common.{length}
use Rattle.elab_exps.proofs.UseLaws.{use_refused, used_went}
use Rattle.elab_exps.proofs.leaves.used.Goals as goal

pub returns-in-Ok-modules : goal.returns-in-Ok-modules
returns-in-Ok-modules c = used_went c.args.at _ _ c.args.names.now (length c.args.path.now) _ c.in-Ok.found _ c.in-Ok.ensures c.in-Ok-modules.ensures c.path.ensures

pub returns-in-Err : goal.returns-in-Err
returns-in-Err c = use_refused c.args.at _ _ c.args.names.now (length c.args.path.now) _ c.in-Err.ensures
