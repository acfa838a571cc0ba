use Rattle.std.proofs.Common.{◌≡◌, ◌++◌}
use Rattle.told_rows.specs.Arguments.{arguments_of}
use Rattle.told_rows.proofs.ArgumentForms.{data_from}
use Rattle.told_rows.proofs.arguments.add_data.Given as goal

abbrev pub invariant-loop-part : goal.invariant-loop-part
invariant-loop-part l = arguments_of l.fn.made.items ++ data_from l.parts 0 ≡ arguments_of l.made.items ++ data_from l.parts l.part-index
