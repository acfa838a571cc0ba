use Rattle.std.proofs.Common.{sym, subst}
use Rattle.type_graph.specs.Graph.{IsRoot}
use Rattle.type_graph.proofs.Ends.{on_ok, end_free}
use Rattle.type_graph.proofs.steps.join_free.Goals as goal

pub returns-clause-ok : goal.returns-clause-ok
returns-clause-ok c = on_ok c.push.result (λ p table m T. end_free c.args.nodes.now c.args.winner c.args.loser c.link.new.nodes c.node_of-lost.result c.requires.winner c.requires.loser c.requires.winner_root (subst IsRoot (sym c.requires.free) tt) c.requires.differ c.requires.graph c.node_of-lost.ensures c.link.ensures table m T c.args.tasks.now c.push.new.tasks c.requires.free p) c.push.ensures.ok
