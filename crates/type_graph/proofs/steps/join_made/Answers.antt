use Rattle.std.proofs.Common.{sym, subst}
use Rattle.type_graph.specs.Graph.{IsRoot}
use Rattle.type_graph.proofs.Reducing.{heads_clash, counts_clash}
use Rattle.type_graph.proofs.Ends.{end_made, not_true}
use Rattle.type_graph.proofs.steps.join_made.Goals as goal

pub returns-then-one-other-clause-err : goal.returns-then-one-other-clause-err
returns-then-one-other-clause-err c T = counts_clash T c.args.nodes.now c.args.left c.args.right c.args.one.head c.args.other.head c.args.one.first c.args.one.count c.args.other.first c.args.other.count c.requires.graph c.requires.left c.requires.right c.requires.left_made c.requires.right_made c.if-one-other.true

pub returns-then-not-is_same-clause-err : goal.returns-then-not-is_same-clause-err
returns-then-not-is_same-clause-err c T = heads_clash T c.args.nodes.now c.args.left c.args.right c.args.one.head c.args.other.head c.args.one.first c.args.one.count c.args.other.first c.args.other.count c.requires.graph c.requires.left c.requires.right c.requires.left_made c.requires.right_made
    (not_true c.is_same.result c.is_same.ensures c.if-not-is_same.true)

pub returns-clause-ok : goal.returns-clause-ok
returns-clause-ok c table m T = end_made c.args.nodes.now c.args.left c.args.right c.link.new.nodes c.node_of-lost.result c.requires.left c.requires.right (subst IsRoot (sym c.requires.left_made) tt) (subst IsRoot (sym c.requires.right_made) tt) c.requires.differ c.requires.graph c.node_of-lost.ensures c.link.ensures
    table m T c.args.tasks.now c.push.new.tasks c.push_pairs.new.tasks c.args.one.head c.args.other.head c.args.one.first c.args.one.count c.args.other.first c.args.other.count c.requires.left_made c.requires.right_made (c.is_same.ensures.0 c.if-not-is_same.false) c.if-one-other.false
    c.in_ok-push.ensures.ok c.in_ok-push_pairs.ensures
