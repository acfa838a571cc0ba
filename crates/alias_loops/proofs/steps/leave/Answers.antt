use Rattle.fut_aliases.specs.Values.{components}
use Rattle.alias_values.specs.Trees.{value_of}
use Rattle.uniqueness.specs.Answers.{no_memory}
use Rattle.uniqueness.specs.Held.{here_of}
use Rattle.alias_loops.specs.Carried.{carrieds_of}
use Rattle.alias_loops.proofs.StepForms.{leave_done, leave_refused}
use Rattle.alias_loops.proofs.steps.leave.Goals as goal

pub returns-in_default : goal.returns-in_default
returns-in_default c = λ scope. no_memory

pub returns-in-Some : goal.returns-in-Some
returns-in-Some c = λ scope. leave_refused (here_of scope c.args.here.now) c.args.from c.args.body (carrieds_of c.args.carried.now) (components (value_of c.args.given.now)) c.args.losses.now c.in-Some.rule _ c.in-Ok.ensures c.in-Some.is

pub returns-in-None : goal.returns-in-None
returns-in-None c = λ scope. leave_done (here_of scope c.args.here.now) c.args.from c.args.body (carrieds_of c.args.carried.now) (components (value_of c.args.given.now)) c.args.losses.now _ c.in-Ok.ensures c.in-None.is
