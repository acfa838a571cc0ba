use Rattle.core_steps.proofs.Emptying.{Sizes_go}
use Rattle.core_steps.proofs.empties.put_sizes.Given as goal

abbrev pub invariant-loop-atom : goal.invariant-loop-atom
invariant-loop-atom l = Sizes_go l.table l.told l.atom-index l.initial.sizes l.sizes
