use Rattle.alias_values.specs.Trees.{value_of}
use Rattle.uniqueness.proofs.Ruling.{all_aliases}
use Rattle.uniqueness.proofs.rules.aliases.Goals as goal

pub returns : goal.returns
returns c = all_aliases (value_of c.args.value.now) _ _ c.in_ok-all.ensures c.no_alias-none.ensures
