use Rattle.type_graph.proofs.Chains.{none_pushed}
use Rattle.type_graph.proofs.steps.push_down.Goals as goal

pub returns-in-Free-clause-ok : goal.returns-in-Free-clause-ok
returns-in-Free-clause-ok c T t = none_pushed c.args.tasks.now c.args.form T c.args.kind c.args.depth c.in-Free.is
