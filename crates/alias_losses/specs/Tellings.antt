-- What a refusal tells of what was lost.
use Rattle.fut_aliases.specs.declared.aliases.Alias.{Alias}
use Rattle.fut_aliases.specs.declared.refusals.Named.{Named}
use Rattle.fut_aliases.specs.declared.refusals.Named.TheVariants.{ByAlias, ByName}
use Rattle.alias_losses.specs.declared.losses.Telling.{Telling}
use Rattle.alias_losses.specs.declared.losses.Telling.TheVariants.{TheAlias, TheName}

abbrev pub told : Telling → Alias → Named
told TheAlias a = ByAlias a
told (TheName b) a = ByName b
