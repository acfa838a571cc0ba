use Rattle.type_graph.proofs.Short.{hop_like, hop_same, hop_tops}
use Rattle.type_graph.proofs.roots.hop.Goals as goal

pub returns-in-Link-clause-like : goal.returns-in-Link-clause-like
returns-in-Link-clause-like c = hop_like c.args.nodes.now c.put.new.nodes c.args.at c.args.next c.in-Link.after c.node_of-node.result c.node_of.result c.requires.graph c.requires.within c.requires.link c.node_of-node.ensures c.node_of.ensures c.in-Link.is c.put.ensures

pub returns-in-Link-clause-same : goal.returns-in-Link-clause-same
returns-in-Link-clause-same c = hop_same c.args.nodes.now c.put.new.nodes c.args.at c.args.next c.in-Link.after c.node_of-node.result c.node_of.result c.requires.graph c.requires.within c.requires.link c.node_of-node.ensures c.node_of.ensures c.in-Link.is c.put.ensures

pub returns-in-Link-clause-tops : goal.returns-in-Link-clause-tops
returns-in-Link-clause-tops c = hop_tops c.args.nodes.now c.put.new.nodes c.args.at c.args.next c.in-Link.after c.node_of-node.result c.node_of.result c.requires.graph c.requires.within c.requires.link c.node_of-node.ensures c.node_of.ensures c.in-Link.is c.put.ensures
