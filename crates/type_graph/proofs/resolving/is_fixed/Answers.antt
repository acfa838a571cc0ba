use Rattle.std.proofs.Common.{arith}
use Rattle.type_graph.proofs.Rereading.{end_deeper, end_left}
use Rattle.type_graph.proofs.resolving.is_fixed.Goals as goal

pub returns-clause-deeper : goal.returns-clause-deeper
returns-clause-deeper c is = end_deeper c.args.nodes.now c.args.at c.find-root.result c.args.depth c.node_of.result c.find-root.ensures c.node_of.ensures (grind (arith, is))

pub returns-clause-left : goal.returns-clause-left
returns-clause-left c is = end_left c.args.nodes.now c.args.at c.find-root.result c.args.depth c.node_of.result c.find-root.ensures c.node_of.ensures (grind (arith, is))
