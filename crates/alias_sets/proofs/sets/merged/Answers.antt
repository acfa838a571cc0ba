use Rattle.std.proofs.Common.{rules}
use Rattle.alias_sets.proofs.Merging.{merging}
use Rattle.alias_sets.proofs.sets.merged.Goals.{then-both-test+else-j-right, else-both-test}
use Rattle.alias_sets.proofs.sets.merged.Goals as goal

pub returns : goal.returns
returns c = elim c.both-test.branch [ then-both-test+else-j-right w ↦ search (rules, merging) | else-both-test w ↦ search (rules, merging) ]
