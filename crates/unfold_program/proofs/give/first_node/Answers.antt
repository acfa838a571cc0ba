use Rattle.std.proofs.Common.{◌∙◌}
use Rattle.unfold_program.proofs.Growing.{node_is}
use Rattle.unfold_program.proofs.give.first_node.Goals as goal

pub returns-in-Ok-clause-ok : goal.returns-in-Ok-clause-ok
returns-in-Ok-clause-ok c = c.saturating_sub.ensures ∙ node_is c.args.lambda.now _ c.in-Ok.ensures
