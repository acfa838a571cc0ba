use Rattle.std.proofs.Common.{refl, sym, ◌∙◌}
use Rattle.unfold.specs.Held.{entered_of}
use Rattle.size_arena.specs.Trees.{size_of}
use Rattle.unfold.specs.Telling.{Found, found, number}
use Rattle.told_rows.specs.Findings.{with_all}
use Rattle.told_rows.proofs.TellForms.{arrow_start, arrow_on, arrow_made, hole_takes, open_takes, level_takes, built_takes}
use Rattle.told_rows.proofs.telling.result_row.Goals as goal

pub loop-argument-init : goal.loop-argument-init
loop-argument-init c = λ Z W w. arrow_start Z.fields c.args.arguments.now 0 _ (number W) W.type (size_of c.args.tree.now) c.new-frames.ensures.items

pub loop-argument-preserved : goal.loop-argument-preserved
loop-argument-preserved c = λ Z W w. c.loop-argument.invariant Z W w ∙ arrow_on Z.fields c.args.arguments.now c.loop-argument.argument-index c.loop-argument.frames.items _ (number W) W.type _ _ _ _ _ _ c.argument-item.result c.loop-argument-test.true c.in-Fun.is c.argument-item.is refl c.in_ok-push-in-Fun.ensures.items

pub returns-in-Hole : goal.returns-in-Hole
returns-in-Hole c = λ Z w. let W : Found = with_all Z.fields c.args.given.now (found Z (entered_of c.args.entered.now)) in c.unknown.ensures ∙ sym (c.loop-argument.invariant Z W w ∙ hole_takes Z.fields c.args.arguments.now c.loop-argument.argument-index c.loop-argument.frames.items (number W) W.type _ c.argument-item.result c.loop-argument-test.true _ c.in-Hole.is)

pub returns-in-Open : goal.returns-in-Open
returns-in-Open c = λ Z w. let W : Found = with_all Z.fields c.args.given.now (found Z (entered_of c.args.entered.now)) in c.unknown-in-Open.ensures ∙ sym (c.loop-argument.invariant Z W w ∙ open_takes Z.fields c.args.arguments.now c.loop-argument.argument-index c.loop-argument.frames.items (number W) W.type _ c.argument-item.result c.loop-argument-test.true _ _ _ c.in-Open.is)

pub returns-in-Level : goal.returns-in-Level
returns-in-Level c = λ Z w. let W : Found = with_all Z.fields c.args.given.now (found Z (entered_of c.args.entered.now)) in c.unknown-in-Level.ensures ∙ sym (c.loop-argument.invariant Z W w ∙ level_takes Z.fields c.args.arguments.now c.loop-argument.argument-index c.loop-argument.frames.items (number W) W.type _ c.argument-item.result c.loop-argument-test.true _ _ _ c.in-Level.is)

pub returns-in-Built : goal.returns-in-Built
returns-in-Built c = λ Z w. let W : Found = with_all Z.fields c.args.given.now (found Z (entered_of c.args.entered.now)) in c.unknown-in-Built.ensures ∙ sym (c.loop-argument.invariant Z W w ∙ built_takes Z.fields c.args.arguments.now c.loop-argument.argument-index c.loop-argument.frames.items (number W) W.type _ c.argument-item.result c.loop-argument-test.true _ _ _ c.in-Built.is)

pub returns : goal.returns
returns c = λ Z w. let W : Found = with_all Z.fields c.args.given.now (found Z (entered_of c.args.entered.now)) in arrow_made Z.fields c.args.arguments.now c.loop-argument.argument-index c.loop-argument.frames.items _ (number W) W.type _ c.told_row.result _ c.into_bump_slice.ensures c.loop-argument-test.false (c.loop-argument.invariant Z W w) (c.told_row.ensures Z w)
