use Rattle.std.proofs.Common.{ap, ◌∙◌}
use Rattle.told_rows.specs.Arguments.{rows_of}
use Rattle.told_rows.proofs.ArgumentForms.{each_more, each_over}
use Rattle.told_rows.proofs.arguments.argument_rows.Goals as goal

pub loop-argument-preserved : goal.loop-argument-preserved
loop-argument-preserved c = each_more c.args.arguments.now c.loop-argument.argument-index c.loop-argument.made.items c.loop-argument.invariant _ c.in_ok-row.row.now _ c.loop-argument-test.true c.in_ok-row.ensures c.in_ok-push.ensures.items

pub returns : goal.returns
returns c = ap rows_of c.into_bump_slice.ensures ∙ each_over c.args.arguments.now c.loop-argument.argument-index c.loop-argument.made.items c.loop-argument.invariant c.loop-argument-test.false
