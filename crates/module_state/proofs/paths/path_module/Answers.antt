use Rattle.std.proofs.Common.{refl}
use Rattle.module_state.specs.Standing.{here_of}
use Rattle.module_state.proofs.Finding.{path_empty, path_went, path_stopped}
use Rattle.module_state.proofs.paths.path_module.Goals as goal

pub returns-in-empty : goal.returns-in-empty
returns-in-empty c = path_empty _ (here_of c.args.here) _ _ _ _ c.in-empty.len_below refl

pub returns-in-Ok : goal.returns-in-Ok
returns-in-Ok c = path_went c.args.path.now _ (here_of c.args.here) _ _ c.module_at.result c.in-len1-up.len_at_least _ c.modules.ensures c.module_at.ensures _ c.in-Ok.is

pub returns-in-Err : goal.returns-in-Err
returns-in-Err c = path_stopped c.args.path.now _ (here_of c.args.here) _ _ c.module_at.result c.in-len1-up.len_at_least _ c.modules.ensures c.module_at.ensures _ c.in-Err.is
