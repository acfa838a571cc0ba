use Rattle.core_code.proofs.Reading.{Half_read}
use Rattle.core_code.proofs.registers.push_all.Given as goal

abbrev pub invariant-loop-atom : goal.invariant-loop-atom
invariant-loop-atom l = Half_read l.table l.atoms l.atom-index l.initial.stack.items l.stack.items
