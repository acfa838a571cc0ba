use Rattle.alias_applications.proofs.CallForms.{Consuming}
use Rattle.alias_applications.proofs.calls.consume_given.Given as goal

abbrev pub invariant-loop-i : goal.invariant-loop-i
invariant-loop-i l = Consuming l.all l.fn.losses l.losses l.i
