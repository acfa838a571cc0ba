use Rattle.alias_loops.proofs.TurnForms.{Emptying}
use Rattle.alias_loops.proofs.turns.no_sets.Given as goal

abbrev pub invariant-loop-i : goal.invariant-loop-i
invariant-loop-i l = Emptying l.carried l._i l.made.items
