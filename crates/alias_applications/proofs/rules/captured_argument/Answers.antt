use Rattle.std.proofs.Common.{ap, ◌∙◌}
use Rattle.fut_aliases.specs.Calls.{captured}
use Rattle.fut_aliases.specs.declared.refusals.Spot.TheVariants.{First}
use Rattle.uniqueness.specs.Held.{here_of}
use Rattle.alias_applications.specs.Rules.{nowhere}
use Rattle.alias_applications.proofs.rules.captured_argument.Goals as goal

pub returns : goal.returns
returns c = c.captured.ensures nowhere ∙ ap (captured (here_of nowhere c.args.here.now) (First c.args.one.now.argument.node)) c.in_ok-set.ensures
