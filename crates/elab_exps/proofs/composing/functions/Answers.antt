use Rattle.elab_exps.proofs.Gathering.{gathered_all, gathered_stop}
use Rattle.elab_exps.proofs.composing.functions.Goals as goal

pub returns-in-Ok : goal.returns-in-Ok
returns-in-Ok c = gathered_all c.in-Ok.ensures c.both-on_left.ensures c.both.ensures c.both-on_right.ensures

pub returns-in-Err : goal.returns-in-Err
returns-in-Err c = gathered_stop c.in-Err.ensures c.both-on_left.ensures c.both.ensures c.both-on_right.ensures
