use Rattle.std.proofs.Common.{length}
use Rattle.unify.specs.Substitutions.{type_of}
use Rattle.unify.proofs.Outcomes.{both_ok, both_err}
use Rattle.unify.proofs.Loading.{same_task, type_puts, type_bars}
use Rattle.unify.proofs.load.put_type.Goals as goal

pub put_task-requires-clause-within : goal.put_task-requires-clause-within
put_task-requires-clause-within c = same_task c.args.table.now (length c.args.nodes.now) (length c.plant.new.nodes) c.args.number c.in-Ok.planted c.in-Ok.ensures.extends.longer c.requires.number c.in-Ok.ensures.number

pub returns-in-Ok-clause-ok : goal.returns-in-Ok-clause-ok
returns-in-Ok-clause-ok c = both_ok c.put_task.result (λ x h T told. type_puts c.args.table.now T c.args.nodes.now c.plant.new.nodes c.args.number c.in-Ok.planted (type_of c.args.tree.now) c.requires.number c.requires.within (c.in-Ok.ensures.ok T (x.told T told)) c.put_task.new.nodes (h T told)) c.put_task.ensures.extends c.put_task.ensures.ok

pub returns-in-Ok-clause-err : goal.returns-in-Ok-clause-err
returns-in-Ok-clause-err c = both_err c.put_task.result (λ before h T told. type_bars c.args.table.now T c.args.nodes.now c.plant.new.nodes c.args.number c.in-Ok.planted (type_of c.args.tree.now) c.requires.number c.requires.within (c.in-Ok.ensures.ok T (before T told)) (h T told)) c.put_task.ensures.before c.put_task.ensures.err
