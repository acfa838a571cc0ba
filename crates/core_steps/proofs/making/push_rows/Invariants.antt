use Rattle.std.proofs.Common.{map}
use Rattle.core_ir.specs.Plain.{group}
use Rattle.core_steps.proofs.Literals.{Rows_go}
use Rattle.core_steps.proofs.making.push_rows.Given as goal

abbrev pub invariant-loop-i : goal.invariant-loop-i
invariant-loop-i l = Rows_go l.table (map group l.rows) l.i l.initial.stack.items l.stack.items
