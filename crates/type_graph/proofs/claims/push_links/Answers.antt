use Rattle.std.proofs.Common.{length, ap, ◌∙◌, arith}
use Rattle.type_graph.proofs.Grown.{links_step, links_end, long_new}
use Rattle.type_graph.proofs.claims.push_links.Goals as goal

pub loop-at-preserved : goal.loop-at-preserved
loop-at-preserved c = record {
  so_far = links_step c.loop-at.nodes c.push_node.new.nodes _ c.args.parts.now c.loop-at.at c.loop-at-test.true c.in-Ok.ensures.ok c.loop-at.invariant.so_far;
  within = omega (arith, c.loop-at-test.true);
  room = omega (arith, c.in-Ok.ensures.room, ap length c.in-Ok.ensures.ok ∙ long_new c.loop-at.nodes _);
}

pub returns-clause-ok : goal.returns-clause-ok
returns-clause-ok c = links_end c.loop-at.nodes _ c.args.parts.now c.loop-at.at c.loop-at-test.false c.loop-at.invariant.so_far
