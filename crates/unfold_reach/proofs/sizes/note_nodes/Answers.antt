use Rattle.std.proofs.Common.{arith}
use Rattle.unfold_reach.proofs.SizeForms.{nodes_more, nodes_done}
use Rattle.unfold_reach.proofs.sizes.note_nodes.Goals as goal

pub loop-at-preserved : goal.loop-at-preserved
loop-at-preserved c = nodes_more c.args.nodes.now c.args.span.first c.args.span.end _ _ c.loop-at.at _ _ _ c.min-end.ensures c.loop-at-test.true c.index-nodes-at.is c.loop-at.invariant c.note_node.ensures

pub returns : goal.returns
returns c = nodes_done c.args.nodes.now _ _ _ _ c.loop-at.at _ c.min-end.ensures (omega (arith, c.loop-at-test.false)) c.loop-at.invariant
