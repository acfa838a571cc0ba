use Rattle.std.proofs.Common.{ap}
use Rattle.fut_aliases.specs.Steps.{naming}
use Rattle.fut_aliases.specs.declared.refusals.Broken.TheVariants.{Consumed}
use Rattle.fut_aliases.specs.declared.refusals.Named.TheVariants.{ByAlias}
use Rattle.fut_aliases.specs.declared.refusals.Spot.TheVariants.{First}
use Rattle.alias_calls.proofs.sides.clash.Goals as goal

pub returns-in-Some : goal.returns-in-Some
returns-in-Some c = ap (naming (λ a. Consumed (ByAlias a) (First c.args.one.now.node) (First c.args.other.now.node))) c.in-Some.ensures

pub returns-in-None : goal.returns-in-None
returns-in-None c = ap (naming (λ a. Consumed (ByAlias a) (First c.args.one.now.node) (First c.args.other.now.node))) c.in-None.ensures
