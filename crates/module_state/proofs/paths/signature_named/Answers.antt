use Rattle.fut_tree.specs.Names.{names}
use Rattle.module_state.specs.Standing.{here_of}
use Rattle.module_state.proofs.Finding.{signature_stopped, signature_went}
use Rattle.module_state.proofs.paths.signature_named.Goals as goal

pub returns-in-Ok : goal.returns-in-Ok
returns-in-Ok c = signature_went (names c.args.path.now) (here_of c.args.here) _ _ c.signature_at.result _ c.modules.ensures c.signature_at.ensures _ c.in-Ok.is

pub returns-in-Err : goal.returns-in-Err
returns-in-Err c = signature_stopped (names c.args.path.now) (here_of c.args.here) _ _ c.signature_at.result _ c.modules.ensures c.signature_at.ensures _ c.in-Err.is
