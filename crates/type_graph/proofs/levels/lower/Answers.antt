use Rattle.std.proofs.Common.{refl}
use Rattle.type_graph.proofs.Ends.{on_ok}
use Rattle.type_graph.proofs.Lowering.{lowered_by, form_at}
use Rattle.type_graph.proofs.levels.lower.Goals as goal

pub returns-in-Some-clause-ok : goal.returns-in-Some-clause-ok
returns-in-Some-clause-ok c = on_ok c.sink.result (λ so T told. lowered_by T c.args.nodes.now c.sink.new.nodes c.args.number c.find-root.result c.in-Some.level c.in-Made.first c.in-Made.count c.in-Made.head c.find-root.ensures (form_at c.args.nodes.now c.find-root.result c.node_of-node.result c.in-Made.head c.in-Made.first c.in-Made.count c.node_of-node.ensures c.in-Made.is) (c.if-not-is_maker.ensures refl) c.in-Some.ensures (so T told)) c.sink.ensures.ok
