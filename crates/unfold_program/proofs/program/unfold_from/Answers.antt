use Rattle.unfold_program.proofs.Programs.{whole, whole_ungiven, whole_undefined}
use Rattle.unfold_parts.specs.Refused.{no_memory}
use Rattle.unfold_program.specs.Whole.{no_program}
use Rattle.unfold_program.proofs.program.unfold_from.Goals as goal

pub returns-in-Err : goal.returns-in-Err
returns-in-Err c = whole_ungiven _ _ _ _ _ _ _ _ c.in-Err.ensures.given

pub returns-in-Err-reached : goal.returns-in-Err-reached
returns-in-Err-reached c = no_program no_memory

pub returns-in-Err-unfold_definitions : goal.returns-in-Err-unfold_definitions
returns-in-Err-unfold_definitions c = whole_undefined _ _ _ _ _ _ _ c.in-Err-unfold_definitions.ensures.defined

pub returns-in-Ok-unfold_definitions : goal.returns-in-Ok-unfold_definitions
returns-in-Ok-unfold_definitions c = whole _ _ _ _ c.args.state.now c.parameters.new.state _ _ _ _ c.requires.names c.requires.steps c.in-Ok.ensures.given c.in-Ok.ensures.steps c.in-Ok-unfold_definitions.ensures.defined c.unfold_entry.ensures
