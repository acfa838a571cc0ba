use Rattle.std.proofs.Common.{◌≡◌, ℕ}
use Rattle.fut_meaning.specs.Found.{Sizing}
use Rattle.unfold.specs.Telling.{Found}
use Rattle.told_rows.specs.Findings.{with_all}
use Rattle.told_rows.specs.Tables.{Tells}
use Rattle.told_rows.proofs.TellForms.{closure_from}
use Rattle.told_rows.proofs.telling.parameters_given.Given as goal

abbrev pub invariant-loop-i : goal.invariant-loop-i
invariant-loop-i l = (Z : Sizing) → Tells l.sizes Z → (lo : ℕ) (W : Found) → closure_from Z l.parameters l.arguments 0 0 l.first lo W ≡ closure_from Z l.parameters l.arguments 0 l.i l.node lo (with_all Z.fields l.given.items W)
