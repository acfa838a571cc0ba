use Rattle.std.proofs.Common.{◌≡◌, suc, ◌<◌, length, sym, subst, arith}
use Rattle.fut_types.specs.Types.{Made}
use Rattle.type_graph.specs.Graph.{Each}
use Rattle.type_graph.specs.Claims.{types_of, Adds, Nowhere}
use Rattle.type_graph.proofs.Grown.{sound_inside}
use Rattle.unify.proofs.Trees.{all_below}
use Rattle.unify.proofs.Outcomes.{tells_both}
use Rattle.unify.proofs.Putting.{free_extends, free_long, free_sound, planted_made, bars_made}
use Rattle.unify.proofs.plant.plant_made.Goals as goal

pub assert_made-requires-clause-sound : goal.assert_made-requires-clause-sound
assert_made-requires-clause-sound c = free_sound c.args.table.now c.args.nodes.now c.push_node.new.nodes c.args.entries.now c.requires.sound c.in-Ok.ensures.room c.in-Ok.ensures.ok

pub assert_made-requires-clause-parts : goal.assert_made-requires-clause-parts
assert_made-requires-clause-parts c = subst (λ n. Each (λ part. part < n) c.args.parts.now) (sym c.len-base.ensures)
    (all_below (length c.args.nodes.now) (length c.push_node.new.nodes) (let l : length c.push_node.new.nodes ≡ suc (length c.args.nodes.now) = free_long c.args.table.now c.args.nodes.now c.push_node.new.nodes c.args.entries.now c.requires.sound c.in-Ok.ensures.room c.in-Ok.ensures.ok in omega arith) c.args.parts.now c.requires.parts)

pub returns-in-Ok-assert_made-clause-ok : goal.returns-in-Ok-assert_made-clause-ok
returns-in-Ok-assert_made-clause-ok c T told = planted_made c.args.table.now c.args.nodes.now c.push_node.new.nodes c.args.entries.now c.requires.sound c.in-Ok.ensures.room c.in-Ok.ensures.ok T (sound_inside c.args.table.now c.args.nodes.now c.args.entries.now T c.requires.sound (c.in-Ok-assert_made.ensures.extends.told T told)) c.args.head c.args.parts.now c.requires.parts c.in-Ok.number c.in-Ok.ensures.number
    c.assert_made.new.nodes (λ home. Unit {0}) c.in-Ok-assert_made.ensures.extends.longer
    (subst (λ n. Adds T n (λ K a. a c.in-Ok.number ≡ Made c.args.head (types_of a c.args.parts.now)) (λ home. Unit {0}) c.push_node.new.nodes c.assert_made.new.nodes) c.len-base.ensures (c.in-Ok-assert_made.ensures.ok T told))

pub returns-in-Err-assert_made-clause-err : goal.returns-in-Err-assert_made-clause-err
returns-in-Err-assert_made-clause-err c = tells_both c.in-Err-assert_made.error (λ before h T told. bars_made c.args.table.now c.args.nodes.now c.push_node.new.nodes c.args.entries.now c.requires.sound c.in-Ok.ensures.room c.in-Ok.ensures.ok T (sound_inside c.args.table.now c.args.nodes.now c.args.entries.now T c.requires.sound (before T told)) c.args.head c.args.parts.now c.requires.parts c.in-Ok.number c.in-Ok.ensures.number
    (subst (λ n. Nowhere T n (λ K a. a c.in-Ok.number ≡ Made c.args.head (types_of a c.args.parts.now)) c.push_node.new.nodes) c.len-base.ensures (h T told))) c.in-Err-assert_made.ensures.before c.in-Err-assert_made.ensures.err

pub returns-in-Ok-assert_made-clause-extends : goal.returns-in-Ok-assert_made-clause-extends
returns-in-Ok-assert_made-clause-extends c = free_extends c.args.table.now c.args.nodes.now c.push_node.new.nodes c.args.entries.now c.requires.sound c.in-Ok.ensures.room c.in-Ok.ensures.ok c.assert_made.new.nodes c.assert_made.new.entries c.in-Ok-assert_made.ensures.extends

pub returns-in-Ok-assert_made-clause-number : goal.returns-in-Ok-assert_made-clause-number
returns-in-Ok-assert_made-clause-number c = let l : length c.push_node.new.nodes ≡ suc (length c.args.nodes.now) = free_long c.args.table.now c.args.nodes.now c.push_node.new.nodes c.args.entries.now c.requires.sound c.in-Ok.ensures.room c.in-Ok.ensures.ok in omega (arith, l, c.in-Ok.ensures.number, c.in-Ok-assert_made.ensures.extends.longer)

pub assert_made-requires-clause-number : goal.assert_made-requires-clause-number
assert_made-requires-clause-number c = let l : length c.push_node.new.nodes ≡ suc (length c.args.nodes.now) = free_long c.args.table.now c.args.nodes.now c.push_node.new.nodes c.args.entries.now c.requires.sound c.in-Ok.ensures.room c.in-Ok.ensures.ok in omega (arith, l, c.in-Ok.ensures.number, c.len-base.ensures)
