use Rattle.type_graph.proofs.Reducing.{no_kind_named}
use Rattle.type_graph.proofs.Ends.{on_ok, end_opened, kind_above, kind_below}
use Rattle.type_graph.proofs.parts.open_root.Goals as goal

pub returns-then-level_of-gt2-clause-err : goal.returns-then-level_of-gt2-clause-err
returns-then-level_of-gt2-clause-err c T = no_kind_named T c.args.nodes.now c.args.root c.args.entry.label c.args.entry.child c.requires.within (kind_above c.args.nodes.now c.args.root c.node_of-node.result _ c.node_of-node.ensures c.level_of.ensures c.if-level_of-gt2.true)

pub returns-clause-ok : goal.returns-clause-ok
returns-clause-ok c = on_ok c.push-2.result (λ p table T told hc. end_opened table T c.args.nodes.now c.args.tasks.now c.args.entries.now c.push.new.self c.args.root c.node_of-node.result c.args.entry c.args.count _ _ _ told hc c.requires.within c.requires.graph c.requires.form c.requires.count c.node_of-node.ensures
    (kind_below c.node_of-node.result _ c.level_of.ensures c.if-level_of-gt2.false) c.len-number.ensures c.in_ok-push.ensures.ok c.requires.lacks c.put.ensures p) c.push-2.ensures.ok
