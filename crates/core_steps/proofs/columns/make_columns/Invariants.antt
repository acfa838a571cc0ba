use Rattle.core_steps.proofs.Gathering.{Columns_go}
use Rattle.core_steps.proofs.columns.make_columns.Given as goal

abbrev pub invariant-loop-c : goal.invariant-loop-c
invariant-loop-c l = Columns_go l.row l.count l.words l.c l.initial.arrays l.arrays l.made
