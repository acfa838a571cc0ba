use Rattle.fut_aliases.specs.Values.{components}
use Rattle.alias_values.specs.Trees.{value_of}
use Rattle.alias_loops.specs.Carried.{carrieds_of}
use Rattle.alias_loops.proofs.StepForms.{leave_rules_are}
use Rattle.alias_loops.proofs.steps.leave_refusal.Goals as goal

pub returns : goal.returns
returns c = leave_rules_are c.args.losses.now c.args.from c.args.body (carrieds_of c.args.carried.now) _ (components (value_of c.args.given.now)) _ _ _ _ _ c.if-not-here.false c.in_ok-sets.ensures c.least_shared_result.ensures c.result_alias-shared.ensures c.first_given_loss-lost.ensures c.first_of.ensures
