use Rattle.core_steps.proofs.Weighing.{Weighs}
use Rattle.core_steps.proofs.gluing.within.Given as goal

abbrev pub invariant-loop-c : goal.invariant-loop-c
invariant-loop-c l = Weighs l.arrays.arrays l.row l.count l.words l.heaviest l.all l.c
