use Rattle.std.proofs.Common.{◌≡◌, Option, ap}
use Rattle.fut_blocks.specs.Rows.{row_of}
use Rattle.fut_meaning.specs.Found.{Sizing}
use Rattle.unfold.specs.Held.{known_of}
use Rattle.unfold.specs.Telling.{function_row, tells}
use Rattle.told_rows.proofs.CallForms.{told_some, told_none}
use Rattle.told_rows.proofs.ShapeForms.{Makes, makes_as}
use Rattle.told_rows.proofs.calls.row_of_function.Goals as goal

pub returns-in_default : goal.returns-in_default
returns-in_default c = λ Z w. told_none (λ (Y : Option Sizing). row_of c.unknown.result.now ≡ function_row Y c.args.primitive (known_of c.args.function.now) c.args.atoms.now) c.args.sizes Z c.in_default.is w c.unknown.ensures

pub returns : goal.returns
returns c = λ Z w. told_some (λ (Y : Option Sizing). Makes (function_row Y c.args.primitive (known_of c.args.function.now) c.args.atoms.now) c.tells.result) c.args.sizes c.in-Some.sizes Z c.in-Some.is w
    (λ Y v. makes_as c.tells.result _ _ (c.tells.ensures Y v) (ap (tells Y (known_of c.args.function.now)) c.in_ok-arguments.ensures))
