use Rattle.futhark_command.proofs.CallLaws.{answered_complete}
use Rattle.futhark_command.proofs.call.run_command_line.Goals as goal

pub returns-in-Ok-clause-complete : goal.returns-in-Ok-clause-complete
returns-in-Ok-clause-complete g c = answered_complete _ _ _ _ c.in-Ok.names c.in-Ok.ensures.given c.in-Ok.ensures.texts c.answer.ensures.complete
