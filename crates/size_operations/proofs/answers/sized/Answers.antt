use Rattle.size_program.specs.Answers.{no_memory}
use Rattle.size_operations.proofs.AnswerForms.{sized_ok}
use Rattle.size_operations.proofs.answers.sized.Goals as goal

pub returns-in-Ok : goal.returns-in-Ok
returns-in-Ok c = sized_ok _ c.in-Ok.tree c.in-Ok.is

pub returns-in-Err : goal.returns-in-Err
returns-in-Err c = λ t h. no_memory
