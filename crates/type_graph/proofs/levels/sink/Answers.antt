use Rattle.std.proofs.Common.{◌++◌, ◌∷◌, [], length, sym, ◌∙◌, ap, subst}
use Rattle.fut_types.specs.declared.Kind.TheVariants as kind
use Rattle.type_graph.specs.declared.Task.TheVariants as task
use Rattle.type_graph.specs.Graph.{Each, IsTask}
use Rattle.type_graph.proofs.Lowering.{has_task}
use Rattle.type_graph.proofs.levels.sink.Goals as goal

pub solve-requires-clause-within : goal.solve-requires-clause-within
solve-requires-clause-within c = subst (Each (IsTask c.args.table.now (length c.args.nodes.now))) (sym (c.in-Ok.ensures.ok ∙ ap (λ ts. ts ++ task.Has c.args.number kind.Any c.args.level ∷ []) c.new-tasks.ensures)) (has_task c.args.table.now (length c.args.nodes.now) c.args.number kind.Any c.args.level c.requires.number, tt)
