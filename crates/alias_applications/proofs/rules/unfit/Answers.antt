use Rattle.std.proofs.Common.{ap, ◌∙◌}
use Rattle.fut_aliases.specs.Calls.{not_consumable, too_hungry}
use Rattle.fut_aliases.specs.Steps.{or_else}
use Rattle.fut_aliases.specs.declared.refusals.Spot.TheVariants.{First}
use Rattle.alias_values.specs.Trees.{stars_of}
use Rattle.uniqueness.specs.Held.{held_of, here_of}
use Rattle.alias_applications.specs.Rules.{nowhere}
use Rattle.alias_applications.proofs.rules.unfit.Goals as goal

pub returns : goal.returns
returns c = c.first_of.ensures ∙ ap (λ z. or_else z c.not_consumable-fixed.result) c.in_ok-hungry.ensures
    ∙ ap (or_else (too_hungry (stars_of c.args.one.now.stars.now) (held_of c.args.one.now.argument))) (c.not_consumable-fixed.ensures nowhere ∙ ap (not_consumable (here_of nowhere c.args.here.now) (First c.args.one.now.argument.node)) c.in_ok-set.ensures)
