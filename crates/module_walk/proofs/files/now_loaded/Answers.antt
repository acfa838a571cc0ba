use Rattle.std.proofs.Common.{refl}
use Rattle.module_state.proofs.Stands.{memory_stops}
use Rattle.module_walk.proofs.FileLaws.{loaded_added}
use Rattle.module_walk.proofs.files.now_loaded.Goals as goal

pub returns-in-Ok : goal.returns-in-Ok
returns-in-Ok c = loaded_added c.args.number c.args.made _ _ c.in-Ok.ensures.ok refl refl refl refl refl refl

pub returns-in-Err : goal.returns-in-Err
returns-in-Err c = memory_stops _ _ _ _
