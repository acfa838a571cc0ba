use Rattle.core_steps.proofs.Sizing.{All_fit_to}
use Rattle.core_steps.proofs.gluing.rows_fit.Given as goal

abbrev pub invariant-loop-i : goal.invariant-loop-i
invariant-loop-i l = All_fit_to l.arrays.arrays l.row l.count l.words l.i
