use Rattle.uniqueness.specs.Answers.{no_memory}
use Rattle.uniqueness.specs.Held.{held_of, here_of}
use Rattle.alias_loops.specs.Carried.{carrieds_of}
use Rattle.alias_loops.proofs.StepForms.{enter_done, enter_refused}
use Rattle.alias_loops.proofs.steps.enter.Goals as goal

pub returns-in_default : goal.returns-in_default
returns-in_default c = λ scope. no_memory

pub returns-in-Err : goal.returns-in-Err
returns-in-Err c = λ scope. no_memory

pub returns-in-Some : goal.returns-in-Some
returns-in-Some c = λ scope. enter_refused (here_of scope c.args.here.now) (held_of c.args.first.now) c.args.over.now c.args.body (carrieds_of c.args.carried.now) c.args.losses.now c.args.losses.now c.in-Some.rule _ (c.in-Ok.ensures scope) c.in-Some.is

pub returns-in-Ok-consume_firsts : goal.returns-in-Ok-consume_firsts
returns-in-Ok-consume_firsts c = λ scope. enter_done (here_of scope c.args.here.now) (held_of c.args.first.now) c.args.over.now c.args.body (carrieds_of c.args.carried.now) c.args.losses.now c.consume_firsts.new.losses _ (c.in-Ok.ensures scope) c.in-None.is c.in-Ok-consume_firsts.ensures
