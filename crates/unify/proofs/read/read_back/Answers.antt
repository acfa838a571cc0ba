use Rattle.std.proofs.Common.{◌<◌, length, arith}
use Rattle.unify.proofs.Reading.{known_step, known_end, binds_step, binds_end}
use Rattle.unify.proofs.read.read_back.Goals as goal

pub loop-at-preserved : goal.loop-at-preserved
loop-at-preserved c = let lt : c.loop-at.at < length c.args.nodes.now = omega (arith, c.len.ensures, c.loop-at-test.true) in record {
  known = known_step c.loop-at.subst.known c.read_node.new.subst.known _ c.args.entries.now c.args.nodes.now c.loop-at.at c.node_of.result lt c.node_of.ensures c.in-Ok.ensures.known c.loop-at.invariant.known;
  binds = binds_step c.loop-at.subst.binds c.read_node.new.subst.binds _ c.args.nodes.now c.loop-at.at c.node_of.result lt c.node_of.ensures c.in-Ok.ensures.binds c.loop-at.invariant.binds;
  within = omega (arith, lt);
}

pub returns-clause-ok : goal.returns-clause-ok
returns-clause-ok c i = record {
  known = known_end c.loop-at.subst.known _ c.args.entries.now c.args.nodes.now c.loop-at.at (omega (arith, c.len.ensures, c.loop-at-test.false)) c.loop-at.invariant.known i;
  binds = binds_end c.loop-at.subst.binds _ c.args.nodes.now c.loop-at.at (omega (arith, c.len.ensures, c.loop-at-test.false)) c.loop-at.invariant.binds i;
}
