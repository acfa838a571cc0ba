use Rattle.core_steps.proofs.Gathering.{Column_goes}
use Rattle.core_steps.proofs.columns.column.Given as goal

abbrev pub invariant-loop-i : goal.invariant-loop-i
invariant-loop-i l = Column_goes l.arrays.arrays l.row l.c l.count l.words l.i l.cells
