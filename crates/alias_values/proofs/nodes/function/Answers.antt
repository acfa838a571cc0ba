use Rattle.std.proofs.Common.{ap, ◌∙◌}
use Rattle.alias_values.specs.Trees.{value_of}
use Rattle.alias_values.proofs.Forms.{value_function}
use Rattle.alias_values.proofs.nodes.function.Goals as goal

pub returns-in-Ok : goal.returns-in-Ok
returns-in-Ok c = ap value_of c.in-Ok.ensures ∙ value_function c.args.set c.args.stars
