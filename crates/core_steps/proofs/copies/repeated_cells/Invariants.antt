use Rattle.core_steps.proofs.Repeating.{Cells_so}
use Rattle.core_steps.proofs.copies.repeated_cells.Given as goal

abbrev pub invariant-loop : goal.invariant-loop
invariant-loop l = Cells_so l.arrays.arrays l.atom l.word l.counter l.cells
