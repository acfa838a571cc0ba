use Rattle.data_values.proofs.ManyValues.{none_held, one_more_held}
use Rattle.data_values.proofs.taking.data_of_all.Goals as goal

pub loop-value-init : goal.loop-value-init
loop-value-init c = none_held c.new-all.result c.new-all.ensures

pub loop-value-preserved : goal.loop-value-preserved
loop-value-preserved c = one_more_held c.loop-value.all c.push.new.self c.in_ok-data_of.field-0 c.loop-value.yielded c.in-Some.value c.in_ok-push.ensures.ok c.in_ok-data_of.ensures c.loop-value.invariant
