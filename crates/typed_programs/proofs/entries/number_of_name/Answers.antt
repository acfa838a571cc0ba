use Rattle.std.proofs.Common.{◌∙◌}
use Rattle.typed_programs.proofs.Using.{counted}
use Rattle.typed_programs.proofs.entries.number_of_name.Goals as goal

pub returns-else-len-ge4294967296-clause-ok : goal.returns-else-len-ge4294967296-clause-ok
returns-else-len-ge4294967296-clause-ok c = c.len-in-Ok.ensures ∙ counted c.args.flat.now c.args.at c.in-Ok.homes c.in-Ok.ensures
