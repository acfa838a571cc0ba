use Rattle.std.proofs.Common.{subst}
use Rattle.type_graph.specs.Graph.{IsTask}
use Rattle.type_graph.proofs.Ends.{has_within, same_within, part_within}
use Rattle.type_graph.proofs.claims.asked.Goals as goal

pub returns-in-Same : goal.returns-in-Same
returns-in-Same c table n w = (same_within table n c.in-Same.node c.in-Same.field-1 (subst (IsTask table n) c.in-Same.is w)).0

pub returns-in-Has : goal.returns-in-Has
returns-in-Has c table n w = has_within table n c.in-Has.node c.in-Has.field-1 c.in-Has.field-2 (subst (IsTask table n) c.in-Has.is w)

pub returns-in-Part : goal.returns-in-Part
returns-in-Part c table n w = (part_within table n c.in-Part.node c.in-Part.field-1 c.in-Part.field-2 (subst (IsTask table n) c.in-Part.is w)).0
