-- Each turn is at a shorter path.
use Rattle.std.proofs.Common.{length}
use Rattle.parse_nodes.proofs.replacing.+replacing.Given as goal

abbrev pub decreases-with_field_replaced : goal.decreases-with_field_replaced
decreases-with_field_replaced l = length l.fields.now
