use Rattle.std.proofs.Common.{◌≡◌, ◌++◌, drop}
use Rattle.unfold.specs.Telling.{to_come}
use Rattle.told_rows.specs.Arguments.{arguments_of, rows_of}
use Rattle.told_rows.proofs.arguments.add_rows.Given as goal

abbrev pub invariant-loop-row : goal.invariant-loop-row
invariant-loop-row l = arguments_of l.fn.made.items ++ to_come (rows_of l.rows) ≡ arguments_of l.made.items ++ to_come (rows_of (drop l.row-index l.rows))
