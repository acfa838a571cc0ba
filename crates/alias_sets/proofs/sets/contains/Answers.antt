use Rattle.alias_sets.proofs.Members.{search_finds}
use Rattle.alias_sets.proofs.sets.contains.Goals as goal

pub returns : goal.returns
returns c = search_finds c.args.set.now c.args.root c.binary_search.result c.is_ok.result c.requires.set c.binary_search.ensures.position c.is_ok.ensures.value
