use Rattle.std.proofs.Common.{◌++◌, ◌∷◌, [], length, ap, sym, subst, ◌∙◌, List, arith}
use Rattle.type_graph.specs.declared.Task.{Task}
use Rattle.type_graph.specs.declared.Task.TheVariants as task
use Rattle.type_graph.specs.Graph.{Each}
use Rattle.type_graph.proofs.Ends.{on_ok, if_err, told_grows}
use Rattle.type_graph.proofs.Grown.{sound_inside}
use Rattle.type_graph.proofs.Adding.{entries_more, extends_kept}
use Rattle.type_schemes.specs.Instances.{IsLabelled, Pushes, Uses}
use Rattle.type_schemes.proofs.Pushing.{uses_within, use_labels, use_tasks, use_adds, use_nowhere}
use Rattle.type_schemes.proofs.instances.instance.Goals as goal

pub solve-requires-clause-bound : goal.solve-requires-clause-bound
solve-requires-clause-bound c = c.in-Ok-use_parts.ensures.bound c.args.table.now _ c.requires.known (c.in-Ok.ensures.bound c.args.table.now _ c.requires.sound.bound)

pub solve-requires-clause-entries : goal.solve-requires-clause-entries
solve-requires-clause-entries c = entries_more c.args.table.now (length c.args.nodes.now) (length c.use_parts.new.nodes) c.args.entries.now (omega (arith, c.in-Ok.ensures.long, c.in-Ok-use_parts.ensures.longer)) c.requires.sound.are

pub solve-requires-clause-within : goal.solve-requires-clause-within
solve-requires-clause-within c = uses_within c.args.table.now (length c.use_parts.new.nodes) c.push_task.new.tasks (use_tasks c.args.nodes.now c.push_free.new.nodes c.use_parts.new.nodes c.args.base c.args.count c.args.number c.len-start.result c.use_parts.new.tasks c.push_task.new.tasks c.requires.base c.requires.number c.requires.region.some c.len-start.ensures c.in-Ok.ensures.long c.in-Ok-use_parts.ensures.longer c.in-Ok-use_parts.ensures.tasks c.in-Ok-push_task.ensures.ok)
    (use_labels c.args.table.now c.args.number c.len-start.result c.use_parts.new.tasks c.push_task.new.tasks (c.in-Ok-use_parts.ensures.labels c.args.table.now c.requires.known (subst (Each (IsLabelled c.args.table.now)) (sym c.new-tasks.ensures) tt)) c.in-Ok-push_task.ensures.ok)

pub returns-in-Ok-push_task-clause-extends : goal.returns-in-Ok-push_task-clause-extends
returns-in-Ok-push_task-clause-extends c = on_ok c.solve.result (extends_kept c.args.table.now c.args.nodes.now c.use_parts.new.nodes c.solve.new.nodes c.args.entries.now c.solve.new.entries (omega (arith, c.in-Ok.ensures.long, c.in-Ok-use_parts.ensures.longer))) c.solve.ensures.kept

pub returns-in-Ok-push_task-clause-ok : goal.returns-in-Ok-push_task-clause-ok
returns-in-Ok-push_task-clause-ok c = on_ok c.solve.result (λ so T told. use_adds T c.args.base c.args.nodes.now c.push_free.new.nodes c.use_parts.new.nodes c.solve.new.nodes c.args.store.now c.args.first c.args.count c.args.number c.use_parts.new.tasks c.push_task.new.tasks c.requires.sound.graph (sound_inside c.args.table.now c.args.nodes.now c.args.entries.now T c.requires.sound (told_grows _ _ c.args.entries.now c.solve.new.entries T c.solve.ensures.grows told)) c.requires.base c.requires.number c.requires.region
    (c.in-Ok.ensures.ok T (sound_inside c.args.table.now c.args.nodes.now c.args.entries.now T c.requires.sound (told_grows _ _ c.args.entries.now c.solve.new.entries T c.solve.ensures.grows told))) c.in-Ok.ensures.long (use_tasks c.args.nodes.now c.push_free.new.nodes c.use_parts.new.nodes c.args.base c.args.count c.args.number c.len-start.result c.use_parts.new.tasks c.push_task.new.tasks c.requires.base c.requires.number c.requires.region.some c.len-start.ensures c.in-Ok.ensures.long c.in-Ok-use_parts.ensures.longer c.in-Ok-use_parts.ensures.tasks c.in-Ok-push_task.ensures.ok)
    (subst (λ n. Pushes T c.push_free.new.nodes [] (Uses T.shapes c.args.store.now c.args.first n c.args.count) c.use_parts.new.nodes c.use_parts.new.tasks) c.len-start.ensures (subst (λ (ts : List Task). Pushes T c.push_free.new.nodes ts (Uses T.shapes c.args.store.now c.args.first c.len-start.result c.args.count) c.use_parts.new.nodes c.use_parts.new.tasks) c.new-tasks.ensures (c.in-Ok-use_parts.ensures.ok T (c.in-Ok.ensures.ok T (sound_inside c.args.table.now c.args.nodes.now c.args.entries.now T c.requires.sound (told_grows _ _ c.args.entries.now c.solve.new.entries T c.solve.ensures.grows told))).grown.inside)))
    (c.in-Ok-push_task.ensures.ok ∙ ap (λ n. c.use_parts.new.tasks ++ task.Same c.args.number n ∷ []) c.len-start.ensures) (so T told)) c.solve.ensures.solved

pub returns-in-Ok-push_task-clause-err : goal.returns-in-Ok-push_task-clause-err
returns-in-Ok-push_task-clause-err c = if_err c.solve.result (λ un T told. use_nowhere T c.args.base c.args.nodes.now c.push_free.new.nodes c.use_parts.new.nodes c.solve.new.nodes c.args.store.now c.args.first c.args.count c.args.number c.use_parts.new.tasks c.push_task.new.tasks c.requires.sound.graph (sound_inside c.args.table.now c.args.nodes.now c.args.entries.now T c.requires.sound (told_grows _ _ c.args.entries.now c.solve.new.entries T c.solve.ensures.grows told)) c.requires.base c.requires.number c.requires.region
    (c.in-Ok.ensures.ok T (sound_inside c.args.table.now c.args.nodes.now c.args.entries.now T c.requires.sound (told_grows _ _ c.args.entries.now c.solve.new.entries T c.solve.ensures.grows told))) c.in-Ok.ensures.long (use_tasks c.args.nodes.now c.push_free.new.nodes c.use_parts.new.nodes c.args.base c.args.count c.args.number c.len-start.result c.use_parts.new.tasks c.push_task.new.tasks c.requires.base c.requires.number c.requires.region.some c.len-start.ensures c.in-Ok.ensures.long c.in-Ok-use_parts.ensures.longer c.in-Ok-use_parts.ensures.tasks c.in-Ok-push_task.ensures.ok)
    (subst (λ n. Pushes T c.push_free.new.nodes [] (Uses T.shapes c.args.store.now c.args.first n c.args.count) c.use_parts.new.nodes c.use_parts.new.tasks) c.len-start.ensures (subst (λ (ts : List Task). Pushes T c.push_free.new.nodes ts (Uses T.shapes c.args.store.now c.args.first c.len-start.result c.args.count) c.use_parts.new.nodes c.use_parts.new.tasks) c.new-tasks.ensures (c.in-Ok-use_parts.ensures.ok T (c.in-Ok.ensures.ok T (sound_inside c.args.table.now c.args.nodes.now c.args.entries.now T c.requires.sound (told_grows _ _ c.args.entries.now c.solve.new.entries T c.solve.ensures.grows told))).grown.inside)))
    (c.in-Ok-push_task.ensures.ok ∙ ap (λ n. c.use_parts.new.tasks ++ task.Same c.args.number n ∷ []) c.len-start.ensures) (un T told)) c.solve.ensures.err

pub returns-in-Ok-push_task-clause-before : goal.returns-in-Ok-push_task-clause-before
returns-in-Ok-push_task-clause-before c = if_err c.solve.result (λ un T told. told_grows _ _ c.args.entries.now c.solve.new.entries T c.solve.ensures.grows told) c.solve.ensures.err
