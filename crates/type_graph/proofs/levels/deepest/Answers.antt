use Rattle.std.proofs.Common.{arith}
use Rattle.type_graph.proofs.Lowering.{over_more}
use Rattle.type_graph.proofs.levels.deepest.Goals as goal

pub loop-at-preserved : goal.loop-at-preserved
loop-at-preserved c = record {
  over = over_more c.args.nodes.now c.args.first c.loop-at.at c.find-root.result c.loop-at.most c.deeper-most.result c.node_of-one.result c.loop-at.invariant.over c.deeper-most.ensures.one c.find-root.ensures c.node_of-one.ensures c.deeper-most.ensures.other;
  within = omega (arith, c.loop-at-test.true);
}
