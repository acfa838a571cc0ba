use Rattle.core_code.specs.Registers.{state}
use Rattle.core_steps.proofs.Taking.{Row_goes}
use Rattle.core_steps.proofs.rows.push_row.Given as goal

abbrev pub invariant-loop-atom : goal.invariant-loop-atom
invariant-loop-atom l = Row_goes l.atoms l.i l.atom-index (state l.initial.arrays l.table l.initial.stack.items) (state l.arrays l.table l.stack.items)
