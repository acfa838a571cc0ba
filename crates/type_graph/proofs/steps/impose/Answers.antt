use Rattle.type_graph.proofs.Ends.{on_ok, end_already, end_raised, end_never, cap_above, cap_below}
use Rattle.type_graph.proofs.steps.impose.Goals as goal

pub returns-then-is_noted-clause-ok : goal.returns-then-is_noted-clause-ok
returns-then-is_noted-clause-ok c table T told are = end_already c.args.nodes.now c.args.root c.node_of-node.result c.node_of-node.ensures c.requires.within c.requires.root c.requires.graph table _ T c.args.tasks.now c.args.kind c.args.depth (c.is_noted.ensures.yes c.if-is_noted.true)

pub returns-then-highest-level_of-clause-err : goal.returns-then-highest-level_of-clause-err
returns-then-highest-level_of-clause-err c T = end_never c.args.nodes.now c.args.root c.node_of-node.result c.node_of-node.ensures c.requires.within c.requires.root c.requires.graph c.args.kind c.higher-kept.result c.args.depth c.lower-low.result c.higher-kept.ensures c.lower-low.ensures (c.is_noted.ensures.no c.if-is_noted.false) T
    (cap_above c.node_of-node.result.form c.higher-kept.result _ _ c.highest.ensures c.level_of.ensures c.if-highest-level_of.true)

pub returns-clause-ok : goal.returns-clause-ok
returns-clause-ok c = on_ok c.push_down.result (λ p table T told are. end_raised c.args.nodes.now c.args.root c.node_of-node.result c.node_of-node.ensures c.requires.within c.requires.root c.requires.graph c.args.kind c.higher-kept.result c.args.depth c.lower-low.result c.higher-kept.ensures c.lower-low.ensures (c.is_noted.ensures.no c.if-is_noted.false)
    table c.args.entries.now T c.args.tasks.now c.put.new.nodes c.push_down.new.tasks told are c.requires.starts (cap_below c.node_of-node.result.form c.higher-kept.result _ _ c.highest.ensures c.level_of.ensures c.if-highest-level_of.false) c.put.ensures (p T told.listed)) c.push_down.ensures.ok
