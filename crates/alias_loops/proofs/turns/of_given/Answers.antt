use Rattle.std.proofs.Common.{arith}
use Rattle.alias_loops.proofs.TurnForms.{given_start}
use Rattle.alias_loops.proofs.turns.of_given.Goals as goal

pub parameters-init : goal.parameters-init
parameters-init c = record { given = given_start c.args.gives.now c.args.all.now c.args.sets.now _ _ c.min-i.ensures c.no_alias-given.ensures; within = omega (arith, c.min-i.ensures); among = omega (arith, c.min-i.ensures) }
