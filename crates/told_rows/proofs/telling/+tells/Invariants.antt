use Rattle.std.proofs.Common.{◌≡◌}
use Rattle.fut_meaning.specs.Found.{Sizing}
use Rattle.told_rows.specs.Tables.{Tells}
use Rattle.told_rows.proofs.TellForms.{tells_from}
use Rattle.told_rows.proofs.telling.+tells.Given as goal

abbrev pub invariant-function_tells-loop-part : goal.invariant-function_tells-loop-part
invariant-function_tells-loop-part l = (Z : Sizing) → Tells l.sizes Z → tells_from Z l.parts l.arguments 0 0 ≡ tells_from Z l.parts l.arguments 0 l.part-index
