use Rattle.std.proofs.Common.{refl, sym, ◌∙◌}
use Rattle.told_rows.proofs.TellForms.{parameter_start, parameter_on, parameter_end}
use Rattle.told_rows.proofs.telling.parameters_given.Goals as goal

pub loop-i-init : goal.loop-i-init
loop-i-init c = λ Z w lo W. parameter_start Z c.args.parameters.now c.args.arguments.now 0 _ c.args.first lo W c.new-given.ensures.items

pub loop-i-preserved : goal.loop-i-preserved
loop-i-preserved c = λ Z w lo W. c.loop-i.invariant Z w lo W ∙ parameter_on Z c.args.parameters.now c.args.arguments.now c.loop-i.i c.loop-i.given.items _ _ _ _ c.index-arguments-i.result c.loop-i.node _ lo W c.loop-i-test.true c.requires (c.in_ok-tree.ensures ∙ sym (w.nodes c.loop-i.node)) c.index-arguments-i.is refl c.in_ok-push.ensures.items c.in_ok-node.ensures

pub returns : goal.returns
returns c = λ Z w lo W. parameter_end Z c.args.parameters.now c.args.arguments.now c.loop-i.i c.loop-i.given.items _ c.args.first c.loop-i.node lo W c.into_bump_slice.ensures c.loop-i-test.false c.loop-i.auto.i-end (c.loop-i.invariant Z w lo W)
