use Rattle.std.proofs.Common.{rules}
use Rattle.alias_sets.proofs.Members.{renamed_union}
use Rattle.alias_sets.proofs.sets.rename.Goals as goal

pub returns : goal.returns
returns c = renamed_union c.args.set.now c.args.to.now c.in_ok-renamed.renamed.now c.in_ok-rest.rest.now c.args.from c.contains.result (search rules) (search rules) (search rules) (search rules)
