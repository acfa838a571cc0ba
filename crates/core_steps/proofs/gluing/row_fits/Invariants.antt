use Rattle.core_steps.proofs.Sizing.{Fits_to}
use Rattle.core_steps.proofs.gluing.row_fits.Given as goal

abbrev pub invariant-loop-c : goal.invariant-loop-c
invariant-loop-c l = Fits_to l.arrays.arrays l.row l.words l.firsts l.c
