use Rattle.std.proofs.Common.{arith, ap, ◌∙◌}
use Rattle.fut_aliases.specs.Stars.{Row}
use Rattle.alias_values.specs.Trees.{row_of, stars_of, type_of}
use Rattle.alias_patterns.proofs.WrittenForms.{made_use, made_array, made_unique, made_arrow, made_no_arrow, made_tuple, made_no_tuple, made_record, made_no_record, part_made, parts_end, parts_short, field_made, fields_end}
use Rattle.alias_patterns.proofs.written.+written.Goals as goal

pub written_stars-returns-in_ok-made-in-Use : goal.written_stars-returns-in_ok-made-in-Use
written_stars-returns-in_ok-made-in-Use t c = λ N k. made_use N c.args.starred c.args.written.now (type_of c.args.ty.now) (stars_of c.in_ok-made-in-Use.made.now) _ _ c.in-Use.is c.in_ok-made-in-Use.ensures

pub written_stars-returns-in_ok-made-in-Array : goal.written_stars-returns-in_ok-made-in-Array
written_stars-returns-in_ok-made-in-Array t c = λ N k. made_array N c.args.starred c.args.written.now (type_of c.args.ty.now) (stars_of c.in_ok-made-in-Array.made.now) _ _ c.in-Array.is c.in_ok-made-in-Array.ensures

pub written_stars-returns-in_ok-made-in-Unique : goal.written_stars-returns-in_ok-made-in-Unique
written_stars-returns-in_ok-made-in-Unique t c = λ N k. made_unique N c.args.starred c.args.written.now (type_of c.args.ty.now) (stars_of c.in_ok-made-in-Unique.made.now) _ c.in-Unique.is (c.in_ok-made-in-Unique.ensures N k)

pub written_stars-returns-in_ok-made-in-Some : goal.written_stars-returns-in_ok-made-in-Some
written_stars-returns-in_ok-made-in-Some t c = λ N k. made_arrow N c.args.starred c.args.written.now (type_of c.args.ty.now) (stars_of c.in_ok-made-in-Some.made.now) _ _ _ c.in-Arrow.is c.in-Some.types c.index-types-0.result c.index-types-1.result (stars_of c.in_ok-taken-in-Some.taken.now) (stars_of c.in_ok-given-in-Some.given.now)
    c.in-Some.ensures c.index-types-0.is c.index-types-1.is (c.in_ok-taken-in-Some.ensures N k) (c.in_ok-given-in-Some.ensures N k) c.in_ok-made-in-Some.ensures

pub written_stars-returns-in_ok-made-in-None : goal.written_stars-returns-in_ok-made-in-None
written_stars-returns-in_ok-made-in-None t c = λ N k. made_no_arrow N c.args.starred c.args.written.now (type_of c.args.ty.now) (stars_of c.in_ok-made-in-None.made.now) _ _ _ c.in-Arrow.is c.in-None.ensures c.in_ok-made-in-None.ensures

pub written_stars-returns-in_ok-made-in-Some-tuple_types : goal.written_stars-returns-in_ok-made-in-Some-tuple_types
written_stars-returns-in_ok-made-in-Some-tuple_types t c = λ N k. made_tuple N c.args.starred c.args.written.now (type_of c.args.ty.now) (stars_of c.in_ok-made-in-Some-tuple_types.made.now) _ c.in-Tuple.is c.in-Some-tuple_types.types (row_of c.in_ok-row-in-Some-tuple_types.row.now) c.in-Some-tuple_types.ensures (c.in_ok-row-in-Some-tuple_types.ensures N k) c.in_ok-made-in-Some-tuple_types.ensures

pub written_stars-returns-in_ok-made-in-None-tuple_types : goal.written_stars-returns-in_ok-made-in-None-tuple_types
written_stars-returns-in_ok-made-in-None-tuple_types t c = λ N k. made_no_tuple N c.args.starred c.args.written.now (type_of c.args.ty.now) (stars_of c.in_ok-made-in-None-tuple_types.made.now) _ c.in-Tuple.is c.in-None-tuple_types.ensures c.in_ok-made-in-None-tuple_types.ensures

pub written_stars-returns-in_ok-made-in-None-record_types : goal.written_stars-returns-in_ok-made-in-None-record_types
written_stars-returns-in_ok-made-in-None-record_types t c = λ N k. made_no_record N c.args.starred c.args.written.now (type_of c.args.ty.now) (stars_of c.in_ok-made-in-None-record_types.made.now) _ c.in-Record.is c.in-None-record_types.ensures c.in_ok-made-in-None-record_types.ensures

pub part_stars-loop-i-preserved : goal.part_stars-loop-i-preserved
part_stars-loop-i-preserved t c = λ N k. part_made N c.args.starred c.args.parts.now c.args.types.now c.loop-i.i c.loop-i.made.items (c.loop-i.invariant N k) _ c.index-types-i.result c.in_ok-stars.stars.now c.push.new.self.items c.loop-i-test.true (omega (arith, c.if-i-types.false)) c.index-types-i.is (c.in_ok-stars.ensures N k) c.in_ok-push.ensures.items

pub part_stars-returns-then-i-types : goal.part_stars-returns-then-i-types
part_stars-returns-then-i-types t c = λ N k. parts_short N c.args.starred c.args.parts.now c.args.types.now c.loop-i.i c.loop-i.made.items (c.loop-i.invariant N k) _ (omega (arith, c.if-i-types.true)) c.into_bump_slice.ensures

pub part_stars-returns : goal.part_stars-returns
part_stars-returns t c = λ N k. parts_end N c.args.starred c.args.parts.now c.args.types.now c.loop-i.i c.loop-i.made.items (c.loop-i.invariant N k) _ (omega (arith, c.loop-i-test.false)) c.into_bump_slice-2.ensures

pub field_stars-loop-field-preserved : goal.field_stars-loop-field-preserved
field_stars-loop-field-preserved t c = λ N k. field_made N c.args.starred c.args.fields.now c.args.head c.args.types.now c.args.row.now.items c.loop-field.field-index c.loop-field.row.items c.put_star.new.row.items c.in_ok-stars.stars.now _ (c.loop-field.invariant N k) c.loop-field-test.true (c.in_ok-stars.ensures N k _ (c.in_ok-place.ensures N k)) (c.in_ok-put_star.ensures _ (c.in_ok-place.ensures N k))

pub field_stars-returns : goal.field_stars-returns
field_stars-returns t c = λ N k. fields_end N c.args.starred c.args.fields.now c.args.head c.args.types.now c.args.row.now.items c.loop-field.field-index c.loop-field.row.items (c.loop-field.invariant N k) (omega (arith, c.loop-field-test.false))

pub written_stars-returns-in_ok-made-in-Some-record_types : goal.written_stars-returns-in_ok-made-in-Some-record_types
written_stars-returns-in_ok-made-in-Some-record_types t c = λ N k. made_record N c.args.starred c.args.written.now (type_of c.args.ty.now) (stars_of c.in_ok-made-in-Some-record_types.made.now) _ c.in-Record.is c.in-Some-record_types.record (row_of c.spread_row.new.row.items) (row_of c.field_stars.new.row.items)
    c.in-Some-record_types.ensures c.in_ok-spread_row-in-Some-record_types.ensures (c.in_ok-field_stars-in-Some-record_types.ensures N k) (c.in_ok-made-in-Some-record_types.ensures ∙ ap (λ z. Row (row_of z)) c.into_bump_slice.ensures)
