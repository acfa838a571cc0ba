use Rattle.core_steps.proofs.Places.{Places_go}
use Rattle.core_steps.proofs.selected.passing_rows.Given as goal

abbrev pub invariant-loop-i : goal.invariant-loop-i
invariant-loop-i l = Places_go l.passing l.tests l.i l.rows
