use Rattle.std.proofs.Common.{◌++◌, ◌∷◌, [], ◌∙◌, ap, subst}
use Rattle.type_graph.specs.Graph.{Solved}
use Rattle.type_graph.proofs.Ends.{on_ok, told_grows}
use Rattle.type_graph.proofs.Lowering.{solved_lowered, sound_kept}
use Rattle.type_graph.proofs.claims.settle.Goals as goal

pub lower-requires-clause-sound : goal.lower-requires-clause-sound
lower-requires-clause-sound c = sound_kept c.args.table.now c.args.nodes.now c.solve.new.nodes c.args.entries.now c.solve.new.entries c.in-Ok-solve.ensures.kept

pub returns-in-Ok-solve-clause-ok : goal.returns-in-Ok-solve-clause-ok
returns-in-Ok-solve-clause-ok c = on_ok c.lower.result (λ lo T told. solved_lowered T c.args.nodes.now c.solve.new.nodes c.lower.new.nodes (c.args.task ∷ []) (subst (λ ts. Solved T c.args.nodes.now ts c.solve.new.nodes) (c.in-Ok.ensures.ok ∙ ap (λ ts. ts ++ c.args.task ∷ []) c.new-tasks.ensures) (c.in-Ok-solve.ensures.solved T (told_grows _ _ c.solve.new.entries c.lower.new.entries T c.lower.ensures.grows told))) (lo T told)) c.lower.ensures.ok
