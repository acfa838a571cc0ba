use Rattle.std.proofs.Common.{ap, refl}
use Rattle.type_graph.specs.declared.Node.{Node}
use Rattle.unique_programs.proofs.GivenForms.{gives_second}
use Rattle.unique_programs.proofs.given.given_by.Goals as goal

pub returns-then-count-eq2-clause-gives : goal.returns-then-count-eq2-clause-gives
returns-then-count-eq2-clause-gives c = gives_second c.args.nodes.now c.args.at c.find-root.result c.in-Made.first c.in-Made.count c.in-Made.head c.node_of.result.form c.find-root.ensures (ap (λ (x : Node). x.form) c.node_of.ensures) c.in-Made.is (c.if-is_function.ensures refl) c.if-count-eq2.true
