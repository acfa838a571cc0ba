use Rattle.size_patterns.proofs.EnterForms.{sized_enters, sized_not}
use Rattle.size_patterns.proofs.entering.enter_sized.Goals as goal

pub returns-in-Ok : goal.returns-in-Ok
returns-in-Ok c = λ N types t σ E k known is. sized_enters N types c.args.pattern c.args.node c.args.size t c.args.rest σ E is c.bind.result (c.bind.ensures.gives N E.scope k known) c.in-Ok.bound c.in-Ok.is

pub returns-in-Err : goal.returns-in-Err
returns-in-Err c = λ N types t σ E k known is. sized_not N types c.args.pattern c.args.node c.args.size t c.args.rest σ E is c.bind.result (c.bind.ensures.gives N E.scope k known) c.in-Err.error c.in-Err.is
