use Rattle.std.proofs.Common.{map}
use Rattle.core_ir.specs.Plain.{group}
use Rattle.core_code.specs.Registers.{state}
use Rattle.core_steps.proofs.Emptying.{None_goes}
use Rattle.core_steps.proofs.empties.glue_none.Given as goal

abbrev pub invariant-loop-i : goal.invariant-loop-i
invariant-loop-i l = None_goes (map group l.told) l.i (state l.initial.arrays l.table l.initial.stack.items) (state l.arrays l.table l.stack.items)
