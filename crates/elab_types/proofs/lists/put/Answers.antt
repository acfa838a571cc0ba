use Rattle.elab_types.specs.Lists.{put, no_item, no_room}
use Rattle.elab_types.proofs.lists.put.Goals as goal

pub returns-in-Ok-push : goal.returns-in-Ok-push
returns-in-Ok-push g c = rw c.in-Ok.is (put c.in-Ok-push.ensures.items)

pub returns-in-Err-push : goal.returns-in-Err-push
returns-in-Err-push g c = no_room

pub returns-in-Err : goal.returns-in-Err
returns-in-Err g c = rw c.in-Err.is no_item
