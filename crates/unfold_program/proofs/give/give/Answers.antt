use Rattle.fut_blocks.proofs.Layers.{binding_of-made}
use Rattle.unfold_program.proofs.Growing.{give_ok, give_unnamed, give_unpushed}
use Rattle.unfold_program.proofs.give.give.Goals as goal

pub returns-in-Err : goal.returns-in-Err
returns-in-Err c = give_unnamed _ _ _ _ _ _ _ _ c.in-Err.ensures.fresh

pub returns-in-Ok-push : goal.returns-in-Ok-push
returns-in-Ok-push c = give_ok _ _ _ _ c.fresh.new.self _ _ _ _ c.in-Ok.ensures.fresh c.in-Ok.ensures.steps c.in-Ok-push.ensures.steps c.in-Ok-push.ensures.next (binding_of-made _)

pub returns-in-Err-push : goal.returns-in-Err-push
returns-in-Err-push c = give_unpushed _ _ _ _ _ _ _ _ _ c.in-Err-push.ensures.steps
