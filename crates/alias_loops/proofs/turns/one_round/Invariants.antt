use Rattle.alias_joins.specs.SetRows.{sets_of}
use Rattle.alias_loops.specs.Carried.{carrieds_of}
use Rattle.alias_loops.proofs.TurnForms.{Rounding}
use Rattle.alias_loops.proofs.turns.one_round.Given as goal

abbrev pub invariant-loop-i : goal.invariant-loop-i
invariant-loop-i l = Rounding l.from (carrieds_of l.all) (sets_of l.sets) l.all l.i l.made.items
