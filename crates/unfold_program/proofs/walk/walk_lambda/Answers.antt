use Rattle.unfold_program.specs.Answers.{no_lambda}
use Rattle.unfold_program.proofs.Arms.{lambda_end}
use Rattle.unfold_program.proofs.walk.walk_lambda.Goals as goal

pub returns-in-Err : goal.returns-in-Err
returns-in-Err c = no_lambda

pub returns-in-Ok-after_exp : goal.returns-in-Ok-after_exp
returns-in-Ok-after_exp c = lambda_end _ _ _ _ _ _ _ _ c.in-Ok.ensures c.in-Ok-after_exp.ensures c.function_known.ensures.ok c.function_known.ensures.err c.put.ensures

pub returns-in-Err-after_exp : goal.returns-in-Err-after_exp
returns-in-Err-after_exp c = no_lambda
