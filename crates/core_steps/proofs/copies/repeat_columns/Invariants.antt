use Rattle.core_steps.proofs.Repeating.{Row_goes}
use Rattle.core_steps.proofs.copies.repeat_columns.Given as goal

abbrev pub invariant-loop-c : goal.invariant-loop-c
invariant-loop-c l = Row_goes l.row l.count l.words l.c l.initial.arrays l.arrays l.made
