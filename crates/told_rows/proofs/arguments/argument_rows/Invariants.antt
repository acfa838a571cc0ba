use Rattle.std.proofs.Common.{◌≡◌, ◌++◌, drop, map}
use Rattle.unfold.specs.Telling.{argument_row}
use Rattle.told_rows.specs.Arguments.{arguments_of, rows_of}
use Rattle.told_rows.proofs.arguments.argument_rows.Given as goal

abbrev pub invariant-loop-argument : goal.invariant-loop-argument
invariant-loop-argument l = map argument_row (arguments_of l.arguments) ≡ rows_of l.made.items ++ map argument_row (arguments_of (drop l.argument-index l.arguments))
