use Rattle.uniqueness.specs.Held.{held_of, helds_of, here_of}
use Rattle.uniqueness.proofs.Stepping.{update_rules_are}
use Rattle.uniqueness.proofs.steps.update_broken.Goals as goal

pub returns : goal.returns
returns c = λ scope. update_rules_are (here_of scope c.args.here.now) c.args.losses.now c.args.mark (held_of c.args.array.now) (helds_of c.args.parts.now) _ _ _ _ _ _ _ _ _ _ _
    c.requires.names c.in_ok-element.ensures c.shares-shared.ensures (c.not_consumable-fixed.ensures scope) (c.captured-outside.ensures scope) c.in_ok-lost.ensures c.in_ok-later.ensures c.first_of-settled.ensures c.first_of-inside.ensures c.first_of-consumable.ensures c.first_of.ensures
