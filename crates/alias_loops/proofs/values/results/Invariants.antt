use Rattle.alias_loops.proofs.ValueForms.{Resulting}
use Rattle.alias_loops.proofs.values.results.Given as goal

abbrev pub invariant-loop-i : goal.invariant-loop-i
invariant-loop-i l = Resulting l.carried l.turns l.given l.i l.made.items
