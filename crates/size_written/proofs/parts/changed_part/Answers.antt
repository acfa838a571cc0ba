use Rattle.std.proofs.Common.{ap, ◌∙◌}
use Rattle.sized_types.specs.Sizes.{Built}
use Rattle.fut_types.specs.Shapes.{place}
use Rattle.fut_sizes.specs.WrittenSizes.{with_part}
use Rattle.size_arena.specs.Trees.{size_of, sizes_of}
use Rattle.size_written.proofs.PartForms.{changed_built, changed_other}
use Rattle.size_written.proofs.parts.changed_part.Goals as goal

pub returns-in_ok-made-in-Some : goal.returns-in_ok-made-in-Some
returns-in_ok-made-in-Some c = λ N k. changed_built N c.args.name.now c.in-Some.row.head (sizes_of c.in-Some.row.parts.now) (size_of c.args.tree.now) c.in-Some.ensures (λ old. size_of c.args.new.now) (sizes_of c.put_part.new.row.items) (size_of c.in_ok-made-in-Some.made.now)
    (c.in_ok-put_part-in-Some.ensures _ (c.in_ok-place-in-Some.ensures N k) ∙ ap (λ z. with_part (place N.shapes (N.label c.args.name.now) c.in-Some.row.head) (λ old. size_of c.args.new.now) (sizes_of z)) c.in_ok-parts-in-Some.ensures) (c.in_ok-made-in-Some.ensures ∙ ap (λ z. Built c.in-Some.row.head (sizes_of z)) c.into_bump_slice.ensures)

pub returns-in-None : goal.returns-in-None
returns-in-None c = λ N k. changed_other N c.args.name.now (λ old. size_of c.args.new.now) (size_of c.args.tree.now) c.in-None.ensures
