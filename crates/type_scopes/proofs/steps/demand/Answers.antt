use Rattle.std.proofs.Common.{subst}
use Rattle.fut_types.specs.Shapes.{Shapes}
use Rattle.type_graph.specs.Claims.{Adds}
use Rattle.type_rules.specs.Demands.{All_allow, All_met}
use Rattle.type_scopes.proofs.Claiming.{claimed_graph, ok_both}
use Rattle.type_scopes.proofs.steps.demand.Goals as goal

pub returns-clause-ok : goal.returns-clause-ok
returns-clause-ok c = ok_both c.put.result (λ x f places d lo. claimed_graph places c.args.base d lo _ _ c.args.inference.now c.put.new.nodes c.put.new.entries c.requires.safe x
    (λ N T born E r told. subst (λ (S : Shapes). Adds T c.args.base (λ K a. All_met S K a c.args.demands.now) (λ home. All_allow home c.args.demands.now) c.args.inference.now.nodes c.put.new.nodes) r.shapes (f T told))) c.put.ensures.extends c.put.ensures.ok
