use Rattle.unfold_parts.specs.Layouts.{put, not_put}
use Rattle.unfold_parts.proofs.laying.put.Goals as goal

pub returns-in-Ok : goal.returns-in-Ok
returns-in-Ok c = put c.in-Ok.ensures.items

pub returns-in-Err : goal.returns-in-Err
returns-in-Err c = not_put
