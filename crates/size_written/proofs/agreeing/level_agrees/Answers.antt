use Rattle.std.proofs.Common.{rules}
use Rattle.size_written.proofs.HaveForms.{none_written, not_asked, other_written, same_written}
use Rattle.size_written.proofs.agreeing.level_agrees.Goals as goal

pub returns-then-not-asked : goal.returns-then-not-asked
returns-then-not-asked c = not_asked c.args.asked c.args.at c.args.size c.args.found (search rules)

pub returns-then-same_dim : goal.returns-then-same_dim
returns-then-same_dim c = same_written c.args.asked c.args.at c.args.size c.args.found (search rules) c.in-Some.wanted c.in-Some.ensures c.if-same_dim.ensures

pub returns-else-same_dim : goal.returns-else-same_dim
returns-else-same_dim c = other_written c.args.asked c.args.at c.args.size c.args.found (search rules) c.in-Some.wanted c.in-Some.ensures c.if-same_dim.ensures

pub returns-in-None : goal.returns-in-None
returns-in-None c = none_written c.args.asked c.args.at c.args.size c.args.found (search rules) c.in-None.ensures
