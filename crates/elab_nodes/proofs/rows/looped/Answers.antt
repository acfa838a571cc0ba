use Rattle.elab_nodes.proofs.Joined.{four_then, first_pair_stop, second_pair_stop}
use Rattle.elab_nodes.proofs.rows.looped.Goals as goal

pub returns-in-Ok-both : goal.returns-in-Ok-both
returns-in-Ok-both c = four_then c.in-Ok.ensures c.in-Ok-both.ensures c.loop_at.ensures

pub returns-in-Err-both : goal.returns-in-Err-both
returns-in-Err-both c = second_pair_stop c.in-Ok.ensures c.in-Err-both.ensures

pub returns-in-Err : goal.returns-in-Err
returns-in-Err c = first_pair_stop c.in-Err.ensures
