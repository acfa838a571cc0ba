use Rattle.std.proofs.Common.{◌≤◌, length}
use Rattle.alias_loops.proofs.TurnForms.{Given_from}
use Rattle.alias_loops.proofs.turns.of_given.Given as goal

abbrev pub invariant-parameters : goal.invariant-parameters
invariant-parameters l = record { given : Given_from l.gives l.all l.sets l.i l.given; within : l.i ≤ length l.all; among : l.i ≤ length l.sets }

abbrev pub decreases-parameters : goal.decreases-parameters
decreases-parameters l = l.i
