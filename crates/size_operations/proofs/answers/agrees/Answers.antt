use Rattle.size_operations.proofs.AnswerForms.{agrees_ok}
use Rattle.size_operations.proofs.answers.agrees.Goals as goal

pub returns-in-Ok : goal.returns-in-Ok
returns-in-Ok c = agrees_ok _ c.agree.result c.agree.ensures c.in-Ok.field-0 c.in-Ok.is
