use Rattle.std.proofs.Common.{sym, subst}
use Rattle.type_graph.specs.Graph.{IsRoot}
use Rattle.type_graph.proofs.Ends.{end_open}
use Rattle.type_graph.proofs.steps.join_open.Goals as goal

pub returns-clause-ok : goal.returns-clause-ok
returns-clause-ok c table T told are = end_open c.args.nodes.now c.args.winner c.args.loser c.link.new.nodes c.node_of-lost.result c.requires.winner c.requires.loser c.requires.winner_root (subst IsRoot (sym c.requires.chain) tt) c.requires.differ c.requires.graph c.node_of-lost.ensures c.link.ensures
    table c.args.entries.now T c.args.tasks.now c.push.new.tasks c.push_parts.new.tasks c.args.start c.args.count c.requires.chain c.requires.start told are c.in_ok-push.ensures.ok (c.in_ok-push_parts.ensures T told.listed)
