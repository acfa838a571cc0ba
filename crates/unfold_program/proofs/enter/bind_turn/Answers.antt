use Rattle.unfold_parts.specs.Refused.{no_memory}
use Rattle.unfold_program.specs.Answers.{not_turn_bound}
use Rattle.unfold_program.proofs.Entering.{turn_end, turn_err}
use Rattle.unfold_program.proofs.enter.bind_turn.Goals as goal

pub returns-in-Err : goal.returns-in-Err
returns-in-Err c = turn_err _ _ _ _ _ _ _ _ _ c.bind.new.work _ _ c.in-Err.ensures

pub returns-in-Err-enter : goal.returns-in-Err-enter
returns-in-Err-enter c = not_turn_bound no_memory

pub returns : goal.returns
returns c = turn_end _ _ _ _ _ _ _ _ _ _ c.in-Ok.inside c.in-Ok-enter.entered _ _ c.in-Ok.ensures c.named-turn.ensures c.in-Ok-enter.ensures c.bound.ensures.ok c.bound.ensures.err
