use Rattle.std.proofs.Common.{◌≡◌}
use Rattle.fut_meaning.specs.Found.{Sizing}
use Rattle.size_arena.specs.Trees.{size_of}
use Rattle.unfold.specs.Telling.{Found, number, result_row}
use Rattle.told_rows.specs.Arguments.{rows_of}
use Rattle.told_rows.specs.Tables.{Tells}
use Rattle.told_rows.proofs.TellForms.{result_from}
use Rattle.told_rows.proofs.telling.result_row.Given as goal

abbrev pub invariant-loop-argument : goal.invariant-loop-argument
invariant-loop-argument l = (Z : Sizing) (W : Found) → Tells l.sizes Z → result_row Z.fields (number W) W.type (size_of l.tree) (rows_of l.arguments) ≡ result_from Z.fields l.arguments 0 l.frames.items (number W) W.type (size_of l.current) l.argument-index
