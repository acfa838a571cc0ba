use Rattle.fut_aliases.specs.Values.{components}
use Rattle.alias_values.specs.Trees.{value_of}
use Rattle.alias_loops.proofs.StartForms.{repeated_all, repeated_more}
use Rattle.alias_loops.proofs.starting.each_at.Goals as goal

pub loop-i-preserved : goal.loop-i-preserved
loop-i-preserved c = repeated_more c.args.node c.loop-i._i c.loop-i.made.items _ c.loop-i.invariant c.in_ok-push.ensures.items

pub returns : goal.returns
returns c = repeated_all c.args.node c.loop-i._i _ (components (value_of c.args.value.now)) c.loop-i.made.items _ c.loop-i.invariant c.in_ok-count.ensures c.loop-i.auto._i-end c.loop-i-test.false c.into_bump_slice.ensures
