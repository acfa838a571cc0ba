use Rattle.std.proofs.Common.{ap, ◌∙◌, map}
use Rattle.fut_blocks.specs.Rows.{row_of, rows}
use Rattle.told_rows.specs.Findings.{number_in, type_in}
use Rattle.told_rows.proofs.ToldForms.{hole_told, open_told, fun_told, level_told, built_told, told_more, told_end}
use Rattle.told_rows.proofs.told.+told.Goals as goal

pub told_row-returns-in-Hole : goal.told_row-returns-in-Hole
told_row-returns-in-Hole t c = λ Z w. hole_told Z.fields (number_in Z c.args.findings.now) (type_in Z c.args.findings.now) c.args.tree.now _ c.type_in.result c.in-Hole.is (c.type_in.ensures Z w)

pub told_row-returns-in-Open : goal.told_row-returns-in-Open
told_row-returns-in-Open t c = λ Z w. open_told Z.fields (number_in Z c.args.findings.now) (type_in Z c.args.findings.now) c.args.tree.now c.unknown.result.now c.unknown.ensures _ _ _ c.in-Open.is

pub told_row-returns-in_ok-under-in-Level : goal.told_row-returns-in_ok-under-in-Level
told_row-returns-in_ok-under-in-Level t c = λ Z w. level_told Z.fields (number_in Z c.args.findings.now) (type_in Z c.args.findings.now) c.args.tree.now _ _ _ c.in_ok-many-in-Level.many c.in_ok-under-in-Level.under c.shape.result c.in-Level.is (c.in_ok-many-in-Level.ensures Z w) (c.in_ok-under-in-Level.ensures Z w) c.shape.ensures

pub told_row-returns-in_ok-rows-in-Built : goal.told_row-returns-in_ok-rows-in-Built
told_row-returns-in_ok-rows-in-Built t c = λ Z w. built_told Z.fields (number_in Z c.args.findings.now) (type_in Z c.args.findings.now) c.args.tree.now _ _ _ c.in_ok-rows-in-Built.rows c.headed.result c.in-Built.is (c.in_ok-rows-in-Built.ensures Z w) (c.headed.ensures Z w)

pub told_row-returns-in-Fun : goal.told_row-returns-in-Fun
told_row-returns-in-Fun t c = λ Z w. fun_told Z.fields (number_in Z c.args.findings.now) (type_in Z c.args.findings.now) c.args.tree.now c.unknown-in-Fun.result.now c.unknown-in-Fun.ensures _ _ _ _ c.in-Fun.is

pub told_rows-loop-part-preserved : goal.told_rows-loop-part-preserved
told_rows-loop-part-preserved t c = λ Z w. told_more Z.fields (number_in Z c.args.findings.now) (type_in Z c.args.findings.now) c.args.parts.now c.loop-part.part-index c.loop-part.made.items (c.loop-part.invariant Z w) c.part-item.result c.in_ok-row.row.now c.push.new.self.items c.loop-part-test.true c.part-item.is (c.in_ok-row.ensures Z w) c.in_ok-push.ensures.items

pub told_rows-returns : goal.told_rows-returns
told_rows-returns t c = λ Z w. ap (λ z. rows (map row_of z)) c.into_bump_slice.ensures ∙ told_end Z.fields (number_in Z c.args.findings.now) (type_in Z c.args.findings.now) c.args.parts.now c.loop-part.part-index c.loop-part.made.items (c.loop-part.invariant Z w) c.loop-part-test.false
