use Rattle.alias_calls.proofs.ClashForms.{Clashed_at}
use Rattle.alias_calls.proofs.sides.clashes.Given as goal

abbrev pub invariant-loop-i : goal.invariant-loop-i
invariant-loop-i l = Clashed_at l.sides l.i
