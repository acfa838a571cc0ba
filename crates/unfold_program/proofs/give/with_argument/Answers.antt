use Rattle.unfold_parts.proofs.Refusing.{only_memory}
use Rattle.unfold_program.specs.Answers.{not_argued}
use Rattle.unfold_program.proofs.Growing.{argued_none, argued_end}
use Rattle.unfold_program.proofs.give.with_argument.Goals as goal

pub returns-then-params-eq0 : goal.returns-then-params-eq0
returns-then-params-eq0 c = argued_none _ _ _ _ _ c.if-params-eq0.true

pub returns-in-Err : goal.returns-in-Err
returns-in-Err c = not_argued (only_memory c.in-Err.ensures.err)

pub returns : goal.returns
returns c = argued_end _ _ _ _ _ _ _ _ c.if-params-eq0.false c.in-Ok.ensures.ok c.bind.ensures
