use Rattle.alias_loops.proofs.TurnForms.{Turning}
use Rattle.alias_loops.proofs.turns.over_all_turns.Given as goal

abbrev pub invariant-loop-i : goal.invariant-loop-i
invariant-loop-i l = Turning l.from l.carried l._i l.sets
