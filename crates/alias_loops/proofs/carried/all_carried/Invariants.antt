use Rattle.alias_loops.proofs.CarriedForms.{Carrying}
use Rattle.alias_loops.proofs.carried.all_carried.Given as goal

abbrev pub invariant-loop-i : goal.invariant-loop-i
invariant-loop-i l = Carrying l.losses l.nodes l.own l.first l.gives l.i l.made.items
