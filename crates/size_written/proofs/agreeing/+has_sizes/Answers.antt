use Rattle.std.proofs.Common.{arith, refl}
use Rattle.std.proofs.lemmas.Result.{err_from_is_err_and}
use Rattle.size_arena.specs.Trees.{size_of}
use Rattle.size_program.specs.Answers.{no_memory}
use Rattle.size_written.proofs.HaveForms.{use_has, array_has, array_stops, no_array_has, unique_has, arrow_has, arrow_stops, no_arrow_has, tuple_has, no_tuple_has, record_has, all_next, all_stops, all_end, all_short, no_part_has, fields_next, fields_stop, fields_end}
use Rattle.size_written.proofs.agreeing.+has_sizes.Goals as goal

-- ---- one written type

pub has_sizes-returns-in-Use : goal.has_sizes-returns-in-Use
has_sizes-returns-in-Use t c = λ N k. use_has N c.args.everywhere c.args.at c.args.written.now c.args.tree.now c.in-Use.field-0 c.in-Use.field-1 c.in-Use.is

pub has_sizes-returns-in_ok-level_agrees-in-Some : goal.has_sizes-returns-in_ok-level_agrees-in-Some
has_sizes-returns-in_ok-level_agrees-in-Some t c = λ N k. array_has N c.args.everywhere c.args.at c.args.written.now c.args.tree.now c.in-Array.size c.in-Array.element c.in-Array.is c.in-Some.array c.in-Some.ensures
    _ c.in_ok-level_agrees-in-Some.ensures _ c.has_sizes.result refl (c.has_sizes.ensures N k)

pub has_sizes-returns-in_err-level_agrees-in-Some : goal.has_sizes-returns-in_err-level_agrees-in-Some
has_sizes-returns-in_err-level_agrees-in-Some t c =
    let p = err_from_is_err_and c.from_residual.result c.from_residual.ensures.1 in
    rw (p.1, p.2) (λ N k. array_stops N c.args.everywhere c.args.at c.args.written.now c.args.tree.now c.in-Array.size c.in-Array.element c.in-Array.is c.in-Some.array c.in-Some.ensures _ c.in_err-level_agrees-in-Some.ensures _ refl)

pub has_sizes-returns-in-None : goal.has_sizes-returns-in-None
has_sizes-returns-in-None t c = λ N k. no_array_has N c.args.everywhere c.args.at c.args.written.now c.args.tree.now c.in-Array.size c.in-Array.element c.in-Array.is c.in-None.ensures

pub has_sizes-returns-in-Unique : goal.has_sizes-returns-in-Unique
has_sizes-returns-in-Unique t c = λ N k. unique_has N c.args.everywhere c.args.at c.args.written.now c.args.tree.now c.in-Unique.inner c.has_sizes-in-Unique.result c.in-Unique.is (c.has_sizes-in-Unique.ensures N k)

pub has_sizes-returns-in_err-taken-in-Some-function_parts : goal.has_sizes-returns-in_err-taken-in-Some-function_parts
has_sizes-returns-in_err-taken-in-Some-function_parts t c =
    let p = err_from_is_err_and c.from_residual-in_err-taken-in-Some-function_parts.result c.from_residual-in_err-taken-in-Some-function_parts.ensures.1 in
    rw (p.1, p.2) (λ N k. no_memory)

pub has_sizes-returns-in_err-given-in-Some-function_parts : goal.has_sizes-returns-in_err-given-in-Some-function_parts
has_sizes-returns-in_err-given-in-Some-function_parts t c =
    let p = err_from_is_err_and c.from_residual-in_err-given-in-Some-function_parts.result c.from_residual-in_err-given-in-Some-function_parts.ensures.1 in
    rw (p.1, p.2) (λ N k. no_memory)

pub has_sizes-returns-in_err-has_sizes-in-Some-function_parts : goal.has_sizes-returns-in_err-has_sizes-in-Some-function_parts
has_sizes-returns-in_err-has_sizes-in-Some-function_parts t c =
    let p = err_from_is_err_and c.from_residual-in_err-has_sizes-in-Some-function_parts.result c.from_residual-in_err-has_sizes-in-Some-function_parts.ensures.1 in
    rw (p.1, p.2) (λ N k. arrow_stops N c.args.everywhere c.args.at c.args.written.now c.args.tree.now c.in-Arrow.name c.in-Arrow.from c.in-Arrow.to c.in-Arrow.is c.in-Some-function_parts.function c.in-Some-function_parts.ensures
    c.in_ok-taken-in-Some-function_parts.taken.now c.in_ok-taken-in-Some-function_parts.ensures _ (c.in_err-has_sizes-in-Some-function_parts.ensures N k) _ refl)

pub has_sizes-returns-in_ok-given-in-Some-function_parts : goal.has_sizes-returns-in_ok-given-in-Some-function_parts
has_sizes-returns-in_ok-given-in-Some-function_parts t c = λ N k. arrow_has N c.args.everywhere c.args.at c.args.written.now c.args.tree.now c.in-Arrow.name c.in-Arrow.from c.in-Arrow.to c.in-Arrow.is c.in-Some-function_parts.function c.in-Some-function_parts.ensures
    c.in_ok-taken-in-Some-function_parts.taken.now c.in_ok-taken-in-Some-function_parts.ensures _ (c.in_ok-has_sizes-in-Some-function_parts.ensures N k) c.in_ok-given-in-Some-function_parts.given.now _ c.has_sizes-in-Some-function_parts-2.result
    c.in_ok-given-in-Some-function_parts.ensures refl (c.has_sizes-in-Some-function_parts-2.ensures N k)

pub has_sizes-returns-in-None-function_parts : goal.has_sizes-returns-in-None-function_parts
has_sizes-returns-in-None-function_parts t c = λ N k. no_arrow_has N c.args.everywhere c.args.at c.args.written.now c.args.tree.now c.in-Arrow.name c.in-Arrow.from c.in-Arrow.to c.in-Arrow.is c.in-None-function_parts.ensures

pub has_sizes-returns-in-Some-row_of : goal.has_sizes-returns-in-Some-row_of
has_sizes-returns-in-Some-row_of t c = λ N k. tuple_has N c.args.everywhere c.args.at c.args.written.now c.args.tree.now c.in-Tuple.parts c.in-Tuple.is c.in-Some-row_of.row c.all_have_sizes.result c.in-Some-row_of.ensures (c.all_have_sizes.ensures N k)

pub has_sizes-returns-in-None-row_of : goal.has_sizes-returns-in-None-row_of
has_sizes-returns-in-None-row_of t c = λ N k. no_tuple_has N c.args.everywhere c.args.at c.args.written.now c.args.tree.now c.in-Tuple.parts c.in-Tuple.is c.in-None-row_of.ensures

pub has_sizes-returns-in-Record : goal.has_sizes-returns-in-Record
has_sizes-returns-in-Record t c = λ N k. record_has N c.args.everywhere c.args.at c.args.written.now c.args.tree.now c.in-Record.fields c.fields_have_sizes.result c.in-Record.is (c.fields_have_sizes.ensures N k)

-- ---- parts

pub all_have_sizes-loop-i-init : goal.all_have_sizes-loop-i-init
all_have_sizes-loop-i-init t c = λ N k. refl

pub all_have_sizes-returns-then-i-row : goal.all_have_sizes-returns-then-i-row
all_have_sizes-returns-then-i-row t c = λ N k. all_short N c.args.everywhere c.args.at c.args.parts.now c.args.row.now c.loop-i.i (c.loop-i.invariant N k) c.if-i-row.true

pub all_have_sizes-returns-in_err-has_sizes : goal.all_have_sizes-returns-in_err-has_sizes
all_have_sizes-returns-in_err-has_sizes t c =
    let p = err_from_is_err_and c.from_residual.result c.from_residual.ensures.1 in
    rw (p.1, p.2) (λ N k. all_stops N c.args.everywhere c.args.at c.args.parts.now c.args.row.now c.loop-i.i (c.loop-i.invariant N k) _ c.index-row-i.result c.loop-i-test.true (omega (arith, c.if-i-row.false)) c.index-row-i.is _ (c.in_err-has_sizes.ensures N k) _ refl)

pub all_have_sizes-loop-i-preserved : goal.all_have_sizes-loop-i-preserved
all_have_sizes-loop-i-preserved t c =
    λ N k. all_next N c.args.everywhere c.args.at c.args.parts.now c.args.row.now c.loop-i.i (c.loop-i.invariant N k) _ c.index-row-i.result c.loop-i-test.true (omega (arith, c.if-i-row.false)) c.index-row-i.is _ (c.in_ok-has_sizes.ensures N k) _ refl

pub all_have_sizes-returns : goal.all_have_sizes-returns
all_have_sizes-returns t c = λ N k. all_end N c.args.everywhere c.args.at c.args.parts.now c.args.row.now c.loop-i.i (c.loop-i.invariant N k) (omega (arith, c.loop-i-test.false))

-- ---- fields

pub field_has_sizes-returns-in-None : goal.field_has_sizes-returns-in-None
field_has_sizes-returns-in-None t c = λ N k. no_part_has N c.args.everywhere c.args.at c.args.field.now c.args.part c.in-None.is

pub fields_have_sizes-loop-field-init : goal.fields_have_sizes-loop-field-init
fields_have_sizes-loop-field-init t c = λ N k. refl

pub fields_have_sizes-returns-in_err-part : goal.fields_have_sizes-returns-in_err-part
fields_have_sizes-returns-in_err-part t c =
    let p = err_from_is_err_and c.from_residual.result c.from_residual.ensures.1 in
    rw (p.1, p.2) (λ N k. no_memory)

pub fields_have_sizes-returns-in_err-field_has_sizes : goal.fields_have_sizes-returns-in_err-field_has_sizes
fields_have_sizes-returns-in_err-field_has_sizes t c =
    let p = err_from_is_err_and c.from_residual-in_err-field_has_sizes.result c.from_residual-in_err-field_has_sizes.ensures.1 in
    rw (p.1, p.2) (λ N k. fields_stop N c.args.everywhere c.args.at c.args.fields.now (size_of c.args.tree.now) c.loop-field.field-index (c.loop-field.invariant N k) _ c.loop-field-test.true c.in_ok-part.part (c.in_ok-part.ensures N k) _ (c.in_err-field_has_sizes.ensures N k) _ refl)

pub fields_have_sizes-loop-field-preserved : goal.fields_have_sizes-loop-field-preserved
fields_have_sizes-loop-field-preserved t c =
    λ N k. fields_next N c.args.everywhere c.args.at c.args.fields.now (size_of c.args.tree.now) c.loop-field.field-index (c.loop-field.invariant N k) _ c.loop-field-test.true c.in_ok-part.part (c.in_ok-part.ensures N k) _ (c.in_ok-field_has_sizes.ensures N k) _ refl

pub fields_have_sizes-returns : goal.fields_have_sizes-returns
fields_have_sizes-returns t c = λ N k. fields_end N c.args.everywhere c.args.at c.args.fields.now (size_of c.args.tree.now) c.loop-field.field-index (c.loop-field.invariant N k) (omega (arith, c.loop-field-test.false))
