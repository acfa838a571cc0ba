use Rattle.std.proofs.Common.{}
use Rattle.type_graph.specs.declared.Task.TheVariants as task
use Rattle.type_graph.proofs.Reducing.{turns_round}
use Rattle.type_graph.proofs.Ends.{on_ok, does_turned}
use Rattle.type_graph.proofs.steps.unite.Goals as goal

pub returns-then-fewer-count-clause-ok : goal.returns-then-fewer-count-clause-ok
returns-then-fewer-count-clause-ok c = on_ok c.join_open.result (λ p table T told are. does_turned _ _ _ (task.Same c.args.right c.args.left) _ _ (turns_round _ c.args.left c.args.right) (p table T told are)) c.join_open.ensures.ok

pub returns-in-Free-one-clause-ok : goal.returns-in-Free-one-clause-ok
returns-in-Free-one-clause-ok c = on_ok c.join_free-in-Free-one.result (λ p table T told are. does_turned _ _ _ (task.Same c.args.right c.args.left) _ _ (turns_round _ c.args.left c.args.right) (p table _ T)) c.join_free-in-Free-one.ensures.ok

pub returns-in-Free-one-2-clause-ok : goal.returns-in-Free-one-2-clause-ok
returns-in-Free-one-2-clause-ok c = on_ok c.join_free-in-Free-one-2.result (λ p table T told are. does_turned _ _ _ (task.Same c.args.right c.args.left) _ _ (turns_round _ c.args.left c.args.right) (p table _ T)) c.join_free-in-Free-one-2.ensures.ok

pub returns-in-Open-one-2-clause-ok : goal.returns-in-Open-one-2-clause-ok
returns-in-Open-one-2-clause-ok c = on_ok c.join_open-in-Open-one-2.result (λ p table T told are. does_turned _ _ _ (task.Same c.args.right c.args.left) _ _ (turns_round _ c.args.left c.args.right) (p table T told are)) c.join_open-in-Open-one-2.ensures.ok
