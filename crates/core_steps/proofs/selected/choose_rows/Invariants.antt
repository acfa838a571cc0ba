use Rattle.core_code.specs.Registers.{state}
use Rattle.core_steps.proofs.Choosing.{Chosen_goes}
use Rattle.core_steps.proofs.selected.choose_rows.Given as goal

abbrev pub invariant-loop-atom : goal.invariant-loop-atom
invariant-loop-atom l = Chosen_goes l.atoms l.rows l.atom-index (state l.initial.arrays l.table l.initial.stack.items) (state l.arrays l.table l.stack.items)
