use Rattle.alias_loops.proofs.StepForms.{Consuming}
use Rattle.alias_loops.proofs.steps.consume_firsts.Given as goal

abbrev pub invariant-loop-i : goal.invariant-loop-i
invariant-loop-i l = Consuming l.carried l.fn.losses l.i l.losses
