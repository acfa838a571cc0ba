use Rattle.std.proofs.Common.{◌-◌}
use Rattle.unfold_reach.proofs.SizeForms.{Nodes_noted}
use Rattle.unfold_reach.proofs.sizes.note_nodes.Given as goal

abbrev pub invariant-loop-at : goal.invariant-loop-at
invariant-loop-at l = Nodes_noted l.nodes l.fn.span.first l.fn.span.end l.fn.named l.named l.at

abbrev pub decreases-loop-at : goal.decreases-loop-at
decreases-loop-at l = l.end - l.at
