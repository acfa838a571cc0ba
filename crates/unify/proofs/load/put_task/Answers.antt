use Rattle.std.proofs.Common.{subst}
use Rattle.type_graph.specs.Graph.{Holds}
use Rattle.type_graph.proofs.Ends.{if_err}
use Rattle.type_graph.specs.Claims.{Allowed, Adds, Nowhere}
use Rattle.unify.proofs.Outcomes.{both_ok}
use Rattle.unify.proofs.Putting.{puts_adds, bars_nowhere}
use Rattle.unify.proofs.load.put_task.Goals as goal

pub returns-clause-ok : goal.returns-clause-ok
returns-clause-ok c = both_ok c.assert_task.result (λ x h T told. puts_adds T c.args.nodes.now c.assert_task.new.nodes (λ K a. Holds T K a c.args.task) (λ home. Allowed home c.args.task) c.requires.sound.graph x.longer
    (subst (λ n. Adds T n (λ K a. Holds T K a c.args.task) (λ home. Allowed home c.args.task) c.args.nodes.now c.assert_task.new.nodes) c.len-base.ensures (h T told))) c.assert_task.ensures.extends c.assert_task.ensures.ok

pub returns-clause-err : goal.returns-clause-err
returns-clause-err c = if_err c.assert_task.result (λ h T told. bars_nowhere T c.args.nodes.now (λ K a. Holds T K a c.args.task) (subst (λ n. Nowhere T n (λ K a. Holds T K a c.args.task) c.args.nodes.now) c.len-base.ensures (h T told))) c.assert_task.ensures.err
