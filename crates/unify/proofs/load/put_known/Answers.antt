use Rattle.std.proofs.Common.{length}
use Rattle.type_graph.proofs.Ends.{tells}
use Rattle.type_graph.specs.Graph.{Holds}
use Rattle.type_graph.specs.declared.Task.TheVariants as task
use Rattle.unify.specs.Substitutions.{Suits}
use Rattle.unify.proofs.Putting.{bars_first}
use Rattle.unify.proofs.Outcomes.{both_ok, both_err}
use Rattle.type_graph.specs.Graph.{far}
use Rattle.unify.proofs.Loading.{has_task, parts_more, suits_first, suits_puts, suits_bars}
use Rattle.unify.proofs.load.put_known.Goals as goal

pub put_task-requires-clause-within : goal.put_task-requires-clause-within
put_task-requires-clause-within c = has_task c.args.table.now (length c.args.nodes.now) c.args.number c.args.known.now.kind far c.requires.number

pub put_parts-requires-clause-within : goal.put_parts-requires-clause-within
put_parts-requires-clause-within c = parts_more c.args.table.now (length c.args.nodes.now) (length c.put_task.new.nodes) c.args.known.now.parts c.in-Ok.ensures.extends.longer c.requires.within

pub returns-in-Ok-clause-ok : goal.returns-in-Ok-clause-ok
returns-in-Ok-clause-ok c = both_ok c.put_parts.result (λ x h T told. suits_puts c.args.table.now T c.args.nodes.now c.put_task.new.nodes c.args.number far c.args.known.now c.requires.number c.requires.within (c.in-Ok.ensures.ok T (x.told T told)) c.put_parts.new.nodes (h T told)) c.put_parts.ensures.extends c.put_parts.ensures.ok

pub returns-in-Ok-clause-err : goal.returns-in-Ok-clause-err
returns-in-Ok-clause-err c = both_err c.put_parts.result (λ before h T told. suits_bars c.args.table.now T c.args.nodes.now c.put_task.new.nodes c.args.number far c.args.known.now c.requires.number c.requires.within (c.in-Ok.ensures.ok T (before T told)) (h T told)) c.put_parts.ensures.before c.put_parts.ensures.err

pub returns-in-Err-clause-err : goal.returns-in-Err-clause-err
returns-in-Err-clause-err c = tells c.in-Err.error (λ h T told. bars_first T c.args.nodes.now (λ K a. Holds T K a (task.Has c.args.number c.args.known.now.kind far)) (λ K a. Suits T.shapes K a (a c.args.number) c.args.known.now)
    (suits_first T c.args.number far c.args.known.now) (h T told)) c.in-Err.ensures.err
