use Rattle.std.proofs.Common.{◌+◌, arith, refl, ap, sym, ◌∙◌}
use Rattle.sized_types.specs.Sizes.{Built}
use Rattle.fut_sizes.specs.WrittenSizes.{levels_there, part}
use Rattle.size_arena.specs.Trees.{size_of, sizes_of}
use Rattle.size_written.specs.Answers.{held}
use Rattle.size_written.specs.Blanks.{blank_of, results_of}
use Rattle.size_written.proofs.WithForms.{Is_record, Is_with, use_with, array_with, no_array_with, unique_with, arrow_with, alone_with, no_arrow_with, tuple_with, no_tuple_with, record_with, row_with, no_row_with, if_made, all_next, all_end, field_put, field_left, fields_next, fields_end}
use Rattle.size_written.proofs.filling.+with_sizes.Goals as goal

-- ---- one written type

pub with_sizes-returns-in-Use : goal.with_sizes-returns-in-Use
with_sizes-returns-in-Use t c = λ N k. use_with N (results_of c.args.purpose) (blank_of c.args.purpose) c.args.number c.args.written.now c.args.tree.now c.in-Use.field-0 c.in-Use.field-1 c.in-Use.is

pub with_sizes-returns-in_ok-row-in-Some : goal.with_sizes-returns-in_ok-row-in-Some
with_sizes-returns-in_ok-row-in-Some t c = λ N k. if_made c.level_with.result _ (Is_with N (results_of c.args.purpose) (blank_of c.args.purpose) c.args.number c.args.written.now c.args.tree.now) c.level_with.ensures
    (λ made m. array_with N (results_of c.args.purpose) (blank_of c.args.purpose) c.args.number c.args.written.now c.args.tree.now c.in-Array.size c.in-Array.element c.in-Array.is c.in-Some.array c.in_ok-next-in-Some.next (size_of c.in_ok-row-in-Some.row.now) made
    c.in-Some.ensures c.in_ok-next-in-Some.ensures (c.in_ok-row-in-Some.ensures N k) m)

pub with_sizes-returns-in-None : goal.with_sizes-returns-in-None
with_sizes-returns-in-None t c = λ N k. no_array_with N (results_of c.args.purpose) (blank_of c.args.purpose) c.args.number c.args.written.now c.args.tree.now c.in-Array.size c.in-Array.element c.in-Array.is c.in-None.ensures

pub with_sizes-returns-in-Unique : goal.with_sizes-returns-in-Unique
with_sizes-returns-in-Unique t c = λ N k. if_made c.with_sizes-in-Unique.result _ (Is_with N (results_of c.args.purpose) (blank_of c.args.purpose) c.args.number c.args.written.now c.args.tree.now) (c.with_sizes-in-Unique.ensures N k)
    (λ made m. unique_with N (results_of c.args.purpose) (blank_of c.args.purpose) c.args.number c.args.written.now c.args.tree.now c.in-Unique.inner made c.in-Unique.is m)

pub with_sizes-returns-in_ok-open-in-Some-purposes_inside : goal.with_sizes-returns-in_ok-open-in-Some-purposes_inside
with_sizes-returns-in_ok-open-in-Some-purposes_inside t c = λ N k. if_made c.closed_function.result _ (Is_with N (results_of c.args.purpose) (blank_of c.args.purpose) c.args.number c.args.written.now c.args.tree.now) c.closed_function.ensures
    (λ made m. arrow_with N c.args.purpose c.args.number c.args.written.now c.args.tree.now c.in-Arrow.name c.in-Arrow.from c.in-Arrow.to c.in-Arrow.is c.in-Some-function_parts.parts c.in-Some-function_parts.ensures c.in-Some-purposes_inside.inside
    (size_of c.in_ok-taken-in-Some-purposes_inside.taken.now) (size_of c.in_ok-open-in-Some-purposes_inside.open.now) made c.in-Some-purposes_inside.ensures (c.in_ok-taken-in-Some-purposes_inside.ensures N k) (c.in_ok-open-in-Some-purposes_inside.ensures N k) m)

pub with_sizes-returns-in-None-purposes_inside : goal.with_sizes-returns-in-None-purposes_inside
with_sizes-returns-in-None-purposes_inside t c = λ N k. alone_with N c.args.purpose c.args.number c.args.written.now c.args.tree.now c.in-Arrow.name c.in-Arrow.from c.in-Arrow.to c.in-Arrow.is c.in-Some-function_parts.parts c.in-Some-function_parts.ensures c.in-None-purposes_inside.ensures

pub with_sizes-returns-in-None-function_parts : goal.with_sizes-returns-in-None-function_parts
with_sizes-returns-in-None-function_parts t c = λ N k. no_arrow_with N (results_of c.args.purpose) (blank_of c.args.purpose) c.args.number c.args.written.now c.args.tree.now c.in-Arrow.name c.in-Arrow.from c.in-Arrow.to c.in-Arrow.is c.in-None-function_parts.ensures

pub with_sizes-returns-in_ok-all-in-Some-row_of : goal.with_sizes-returns-in_ok-all-in-Some-row_of
with_sizes-returns-in_ok-all-in-Some-row_of t c = λ N k. if_made c.built.result _ (Is_with N (results_of c.args.purpose) (blank_of c.args.purpose) c.args.number c.args.written.now c.args.tree.now) c.built.ensures
    (λ made m. tuple_with N (results_of c.args.purpose) (blank_of c.args.purpose) c.args.number c.args.written.now c.args.tree.now c.in-Tuple.parts c.in-Tuple.is c.in-Some-row_of.row (sizes_of c.in_ok-all-in-Some-row_of.all.now) made c.in-Some-row_of.ensures (c.in_ok-all-in-Some-row_of.ensures N k) m)

pub with_sizes-returns-in-None-row_of : goal.with_sizes-returns-in-None-row_of
with_sizes-returns-in-None-row_of t c = λ N k. no_tuple_with N (results_of c.args.purpose) (blank_of c.args.purpose) c.args.number c.args.written.now c.args.tree.now c.in-Tuple.parts c.in-Tuple.is c.in-None-row_of.ensures

pub with_sizes-returns-in-Record : goal.with_sizes-returns-in-Record
with_sizes-returns-in-Record t c = λ N k. if_made c.record_with_sizes.result _ (Is_with N (results_of c.args.purpose) (blank_of c.args.purpose) c.args.number c.args.written.now c.args.tree.now) (c.record_with_sizes.ensures N k)
    (λ made m. record_with N (results_of c.args.purpose) (blank_of c.args.purpose) c.args.number c.args.written.now c.args.tree.now c.in-Record.fields made c.in-Record.is m)

-- ---- parts

pub all_with_sizes-loop-i-init : goal.all_with_sizes-loop-i-init
all_with_sizes-loop-i-init t c = λ N k. rw c.new-made.ensures.items refl

pub all_with_sizes-loop-i-preserved : goal.all_with_sizes-loop-i-preserved
all_with_sizes-loop-i-preserved t c = λ N k. all_next N (results_of c.args.purpose) (blank_of c.args.purpose) c.args.first c.args.parts.now c.args.row.now c.loop-i.i c.loop-i.number c.loop-i.made.items (c.loop-i.invariant N k)
    _ c.index-row-i.result c.in_ok-part.part.now c.in_ok-number.number c.push.new.self.items c.loop-i-test.true (omega (arith, c.loop-i-test.true, c.if-parts-row.false)) c.index-row-i.is (c.in_ok-part.ensures N k)
    c.in_ok-number.ensures c.in_ok-push.ensures.items

pub all_with_sizes-returns : goal.all_with_sizes-returns
all_with_sizes-returns t c = λ N k. all_end N (results_of c.args.purpose) (blank_of c.args.purpose) c.args.first c.args.parts.now c.args.row.now c.loop-i.i c.loop-i.number c.loop-i.made.items (c.loop-i.invariant N k) _ c.loop-i-test.false (omega (arith, c.loop-i-test.false, c.if-parts-row.false)) c.into_bump_slice.ensures

-- ---- records

pub record_with_sizes-returns-in_ok-fields_with_sizes-in-Some : goal.record_with_sizes-returns-in_ok-fields_with_sizes-in-Some
record_with_sizes-returns-in_ok-fields_with_sizes-in-Some t c = λ N k. if_made c.built.result _ (Is_record N (results_of c.args.purpose) (blank_of c.args.purpose) c.args.first c.args.fields.now c.args.tree.now) c.built.ensures
    (λ made m. row_with N (results_of c.args.purpose) (blank_of c.args.purpose) c.args.first c.args.fields.now c.args.tree.now c.in-Some.row c.in_ok-all-in-Some.all.items c.fields_with_sizes.new.row.items made c.in-Some.ensures c.in_ok-all-in-Some.ensures
    (c.in_ok-fields_with_sizes-in-Some.ensures N k) (m ∙ ap (λ z. Built c.in-Some.row.head (sizes_of z)) c.into_bump_slice.ensures))

pub record_with_sizes-returns-in-None : goal.record_with_sizes-returns-in-None
record_with_sizes-returns-in-None t c = λ N k. no_row_with N (results_of c.args.purpose) (blank_of c.args.purpose) c.args.first c.args.fields.now c.args.tree.now c.in-None.ensures

pub fields_with_sizes-loop-field-init : goal.fields_with_sizes-loop-field-init
fields_with_sizes-loop-field-init t c = λ N k. refl

pub fields_with_sizes-loop-field-preserved : goal.fields_with_sizes-loop-field-preserved
fields_with_sizes-loop-field-preserved t c = λ N k. fields_next N (results_of c.args.purpose) (blank_of c.args.purpose) c.args.first c.args.fields.now c.args.head c.args.row.now.items c.loop-field.field-index c.loop-field.number c.loop-field.row.items (c.loop-field.invariant N k)
    _ c.field_with_sizes.new.row.items c.in_ok-number.number c.loop-field-test.true (c.in_ok-number.ensures.made N k _ (c.in_ok-place.ensures N k)) (c.in_ok-number.ensures.next _ (c.in_ok-place.ensures N k))

pub fields_with_sizes-returns : goal.fields_with_sizes-returns
fields_with_sizes-returns t c = λ N k. fields_end N (results_of c.args.purpose) (blank_of c.args.purpose) c.args.first c.args.fields.now c.args.head c.args.row.now.items c.loop-field.field-index c.loop-field.number c.loop-field.row.items (c.loop-field.invariant N k) c.loop-field-test.false

pub field_with_sizes-returns-in_ok-next-in-Some-clause-made : goal.field_with_sizes-returns-in_ok-next-in-Some-clause-made
field_with_sizes-returns-in_ok-next-in-Some-clause-made t c = λ N k p told. field_put N (results_of c.args.purpose) (blank_of c.args.purpose) c.args.number c.args.field.now p c.args.row.now.items c.put_part.new.row.items (size_of c.in-Some.part.now) (size_of c.in_ok-made-in-Some.made.now)
    (ap held (sym c.in-Some.is) ∙ c.in_ok-part.ensures p told ∙ ap (λ z. part p (sizes_of z)) c.deref.ensures.value) (c.in_ok-made-in-Some.ensures N k) (c.in_ok-put_part-in-Some.ensures p told)

pub field_with_sizes-returns-in_ok-next-in-Some-clause-next : goal.field_with_sizes-returns-in_ok-next-in-Some-clause-next
field_with_sizes-returns-in_ok-next-in-Some-clause-next t c = λ p told. c.in_ok-next-in-Some.ensures ∙ ap (λ z. c.args.number + levels_there z) (ap held (sym c.in-Some.is) ∙ c.in_ok-part.ensures p told ∙ ap (λ z. part p (sizes_of z)) c.deref.ensures.value)

pub field_with_sizes-returns-in-None-clause-made : goal.field_with_sizes-returns-in-None-clause-made
field_with_sizes-returns-in-None-clause-made t c = λ N k p told. field_left N (results_of c.args.purpose) (blank_of c.args.purpose) c.args.number c.args.field.now p c.args.row.now.items c.args.row.now.items
    (ap held (sym c.in-None.is) ∙ c.in_ok-part.ensures p told ∙ ap (λ z. part p (sizes_of z)) c.deref.ensures.value) refl

pub field_with_sizes-returns-in-None-clause-next : goal.field_with_sizes-returns-in-None-clause-next
field_with_sizes-returns-in-None-clause-next t c = λ p told. omega arith ∙ ap (λ z. c.args.number + levels_there z) (ap held (sym c.in-None.is) ∙ c.in_ok-part.ensures p told ∙ ap (λ z. part p (sizes_of z)) c.deref.ensures.value)
