use Rattle.std.proofs.Common.{drop, arith}
use Rattle.array_data.specs.Held.{held_all}
use Rattle.data_values.specs.Met.{each_met}
use Rattle.data_values.proofs.Shapes.{rest_of}
use Rattle.data_values.proofs.ManyValues.{none_met, one_more_met, one_more_formed}
use Rattle.data_values.proofs.giving.values_of.Goals as goal

pub returns-in_default-clause-same : goal.returns-in_default-clause-same
returns-in_default-clause-same c = none_met (drop c.loop-ty.ty-index c.args.types.now) c.loop-ty.rest.now c.loop-ty.values (each_met c.args.types.now (held_all c.args.components.now)) c.in_default.len_below c.loop-ty.invariant.same

pub loop-ty-preserved : goal.loop-ty-preserved
loop-ty-preserved c = record {
  same = one_more_met c.args.types.now c.loop-ty.ty-index _ c.loop-ty.rest.now _ c.whole-item.result c.loop-ty.values c.push.new.self c.in_ok-value_of.field-0 (each_met c.args.types.now (held_all c.args.components.now)) (omega arith) c.in-len1-up.len_at_least c.whole-item.is (rest_of c.loop-ty.rest.now) c.in_ok-value_of.ensures.same c.in_ok-push.ensures.ok c.loop-ty.invariant.same;
  formed = one_more_formed c.loop-ty.values c.push.new.self c.in_ok-value_of.field-0 c.in_ok-push.ensures.ok c.loop-ty.invariant.formed c.in_ok-value_of.ensures.formed;
}
