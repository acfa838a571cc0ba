use Rattle.std.proofs.Common.{◌≡◌, Option}
use Rattle.fut_blocks.specs.Rows.{row_of}
use Rattle.fut_meaning.specs.Found.{Sizing}
use Rattle.size_arena.specs.Trees.{size_of}
use Rattle.unfold.specs.Held.{scope_of}
use Rattle.unfold.specs.Telling.{literal_row}
use Rattle.told_rows.proofs.CallForms.{told_some, told_none, literal_as}
use Rattle.told_rows.proofs.ShapeForms.{Makes}
use Rattle.told_rows.proofs.calls.row_of_literal.Goals as goal

pub returns-in_default : goal.returns-in_default
returns-in_default c = λ Z w. told_none (λ (Y : Option Sizing). row_of c.unknown.result.now ≡ literal_row Y (scope_of c.args.scope) c.args.node) c.args.sizes Z c.in_default.is w c.unknown.ensures

pub returns : goal.returns
returns c = λ Z w. told_some (λ (Y : Option Sizing). Makes (literal_row Y (scope_of c.args.scope) c.args.node) c.rows_in.result) c.args.sizes c.in-Some.sizes Z c.in-Some.is w
    (λ Y v. literal_as c.in-Some.sizes.now Y v c.args.scope c.args.node (size_of c.in_ok-tree.tree.now) _ c.rows_in.result c.in_ok-tree.ensures (c.in_ok-whole.ensures Y v) c.rows_in.ensures)
