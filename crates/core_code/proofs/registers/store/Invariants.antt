use Rattle.core_code.proofs.Storing.{Stores}
use Rattle.core_code.proofs.registers.store.Given as goal

abbrev pub invariant-loop-i : goal.invariant-loop-i
invariant-loop-i l = Stores l.names l.words l.initial.table l.i l.table
