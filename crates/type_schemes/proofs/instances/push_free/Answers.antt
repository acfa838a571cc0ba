use Rattle.std.proofs.Common.{arith}
use Rattle.type_schemes.proofs.Pushing.{frees_more, free_graph, free_bound, free_long}
use Rattle.type_schemes.proofs.instances.push_free.Goals as goal

pub loop-at-preserved : goal.loop-at-preserved
loop-at-preserved c = record {
  graph = free_graph c.loop-at.nodes c.push_node.new.nodes c.loop-at.invariant.graph c.in-Ok.ensures.ok c.in-Ok.ensures.room;
  long = free_long c.args.nodes.now c.loop-at.nodes c.push_node.new.nodes c.loop-at.at c.loop-at.invariant.long c.in-Ok.ensures.ok;
  bound = λ table m b. free_bound table m c.loop-at.nodes c.push_node.new.nodes (c.loop-at.invariant.bound table m b) c.in-Ok.ensures.ok;
  so_far = λ T ins. frees_more T c.args.nodes.now c.loop-at.nodes c.push_node.new.nodes (c.loop-at.invariant.so_far T ins) c.in-Ok.ensures.ok c.in-Ok.ensures.room;
  within = omega (arith, c.loop-at-test.true);
}
