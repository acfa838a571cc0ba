use Rattle.std.proofs.Common.{◌≡◌, ◌∷◌, ◌++◌, [], length, ap, subst, sym, ◌∙◌, arith}
use Rattle.type_graph.specs.declared.Form.TheVariants as form
use Rattle.type_graph.specs.declared.Task.TheVariants as task
use Rattle.type_graph.specs.Graph.{IsTask, Solved, Unmet}
use Rattle.type_graph.proofs.Ends.{on_ok, if_err, told_grows}
use Rattle.type_graph.specs.Claims.{new_node}
use Rattle.type_graph.proofs.Grown.{long_links, sound_inside}
use Rattle.type_graph.proofs.Adding.{made_sound, made_task, made_adds, made_nowhere, made_longer, extends_kept}
use Rattle.type_graph.proofs.claims.assert_made.Goals as goal

pub overflow_cast-form-2 : goal.overflow_cast-form-2
overflow_cast-form-2 c = omega (arith, c.in-Ok.ensures.room, ap length c.in-Ok.ensures.ok ∙ long_links c.args.parts.now c.args.nodes.now)

pub settle-requires-clause-sound : goal.settle-requires-clause-sound
settle-requires-clause-sound c = made_sound c.args.table.now c.args.base c.args.nodes.now c.push_links.new.nodes c.push_node.new.nodes c.args.entries.now c.args.number c.args.head c.args.parts.now c.requires.sound c.requires.base c.requires.number c.requires.head c.requires.maker c.requires.parts c.in-Ok-push_node.ensures.room c.in-Ok.ensures.ok (subst (λ n. c.push_node.new.nodes ≡ c.push_links.new.nodes ++ new_node (form.Made c.args.head n (length c.args.parts.now)) ∷ []) c.len-first.ensures c.in-Ok-push_node.ensures.ok)

pub settle-requires-clause-within : goal.settle-requires-clause-within
settle-requires-clause-within c = subst (λ n. IsTask c.args.table.now (length c.push_node.new.nodes) (task.Same c.args.number n)) (sym c.in-Ok-push_node.ensures.number) (made_task c.args.table.now c.args.base c.args.nodes.now c.push_links.new.nodes c.push_node.new.nodes c.args.entries.now c.args.number c.args.head c.args.parts.now c.requires.sound c.requires.base c.requires.number c.requires.head c.requires.maker c.requires.parts c.in-Ok-push_node.ensures.room c.in-Ok.ensures.ok (subst (λ n. c.push_node.new.nodes ≡ c.push_links.new.nodes ++ new_node (form.Made c.args.head n (length c.args.parts.now)) ∷ []) c.len-first.ensures c.in-Ok-push_node.ensures.ok))

pub returns-in-Ok-push_node-clause-extends : goal.returns-in-Ok-push_node-clause-extends
returns-in-Ok-push_node-clause-extends c = on_ok c.settle.result (extends_kept c.args.table.now c.args.nodes.now c.push_node.new.nodes c.settle.new.nodes c.args.entries.now c.settle.new.entries (made_longer c.args.table.now c.args.base c.args.nodes.now c.push_links.new.nodes c.push_node.new.nodes c.args.entries.now c.args.number c.args.head c.args.parts.now c.requires.sound c.requires.base c.requires.number c.requires.head c.requires.maker c.requires.parts c.in-Ok-push_node.ensures.room c.in-Ok.ensures.ok (subst (λ n. c.push_node.new.nodes ≡ c.push_links.new.nodes ++ new_node (form.Made c.args.head n (length c.args.parts.now)) ∷ []) c.len-first.ensures c.in-Ok-push_node.ensures.ok))) c.settle.ensures.kept

pub returns-in-Ok-push_node-clause-ok : goal.returns-in-Ok-push_node-clause-ok
returns-in-Ok-push_node-clause-ok c = on_ok c.settle.result (λ so T told. made_adds c.args.table.now c.args.base c.args.nodes.now c.push_links.new.nodes c.push_node.new.nodes c.args.entries.now c.args.number c.args.head c.args.parts.now c.requires.sound c.requires.base c.requires.number c.requires.head c.requires.maker c.requires.parts c.in-Ok-push_node.ensures.room c.in-Ok.ensures.ok (subst (λ n. c.push_node.new.nodes ≡ c.push_links.new.nodes ++ new_node (form.Made c.args.head n (length c.args.parts.now)) ∷ []) c.len-first.ensures c.in-Ok-push_node.ensures.ok) T (sound_inside c.args.table.now c.args.nodes.now c.args.entries.now T c.requires.sound (told_grows _ _ c.args.entries.now c.settle.new.entries T c.settle.ensures.grows told)) c.settle.new.nodes
    (subst (λ n. Solved T c.push_node.new.nodes (task.Same c.args.number n ∷ []) c.settle.new.nodes) c.in-Ok-push_node.ensures.number (so T told))) c.settle.ensures.ok

pub returns-in-Ok-push_node-clause-err : goal.returns-in-Ok-push_node-clause-err
returns-in-Ok-push_node-clause-err c = if_err c.settle.result (λ un T told. made_nowhere c.args.table.now c.args.base c.args.nodes.now c.push_links.new.nodes c.push_node.new.nodes c.args.entries.now c.args.number c.args.head c.args.parts.now c.requires.sound c.requires.base c.requires.number c.requires.head c.requires.maker c.requires.parts c.in-Ok-push_node.ensures.room c.in-Ok.ensures.ok (subst (λ n. c.push_node.new.nodes ≡ c.push_links.new.nodes ++ new_node (form.Made c.args.head n (length c.args.parts.now)) ∷ []) c.len-first.ensures c.in-Ok-push_node.ensures.ok) T (sound_inside c.args.table.now c.args.nodes.now c.args.entries.now T c.requires.sound (told_grows _ _ c.args.entries.now c.settle.new.entries T c.settle.ensures.grows told))
    (subst (λ n. Unmet T c.push_node.new.nodes (task.Same c.args.number n ∷ [])) c.in-Ok-push_node.ensures.number (un T told))) c.settle.ensures.err

pub returns-in-Ok-push_node-clause-before : goal.returns-in-Ok-push_node-clause-before
returns-in-Ok-push_node-clause-before c = if_err c.settle.result (λ un T told. told_grows _ _ c.args.entries.now c.settle.new.entries T c.settle.ensures.grows told) c.settle.ensures.err

pub overflow_cast-parts : goal.overflow_cast-parts
overflow_cast-parts c = omega (arith, c.in-Ok.ensures.room, ap length c.in-Ok.ensures.ok ∙ long_links c.args.parts.now c.args.nodes.now)
