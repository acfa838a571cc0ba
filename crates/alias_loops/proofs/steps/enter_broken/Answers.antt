use Rattle.uniqueness.specs.Held.{held_of, here_of}
use Rattle.alias_loops.specs.Carried.{carrieds_of}
use Rattle.alias_loops.proofs.StepForms.{enter_rules_are}
use Rattle.alias_loops.proofs.steps.enter_broken.Goals as goal

pub returns : goal.returns
returns c = λ scope. enter_rules_are (here_of scope c.args.here.now) c.args.losses.now (held_of c.args.first.now) c.args.over.now c.args.body (carrieds_of c.args.carried.now) _ _ _ _ _ _ _ _
    c.in_ok-lost.ensures (c.first_not_consumable-fixed.ensures scope) (c.first_captured-outside.ensures scope) c.least_shared_first.ensures c.result_alias-shared.ensures c.first_of-settled.ensures c.first_of-inside.ensures c.first_of.ensures
