use Rattle.std.proofs.Common.{ap, ◌∙◌}
use Rattle.alias_values.specs.Trees.{stars_of}
use Rattle.alias_values.proofs.Forms.{star_leaf}
use Rattle.alias_values.proofs.nodes.leaf.Goals as goal

pub returns-in-Ok : goal.returns-in-Ok
returns-in-Ok c = ap stars_of c.in-Ok.ensures ∙ star_leaf _
