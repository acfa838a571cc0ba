use Rattle.told_rows.specs.Places.{size_sought, type_sought}
use Rattle.told_rows.proofs.PlaceForms.{hole_placed, open_placed, fun_placed, level_here, level_in, level_none, tuple_placed, record_placed, part_found, part_on, parts_over, field_found, field_on, fields_over}
use Rattle.told_rows.proofs.places.+place.Goals as goal

pub place-returns-in-Hole : goal.place-returns-in-Hole
place-returns-in-Hole t c = λ Z w. hole_placed Z.fields (size_sought c.args.sought) (type_sought c.args.sought) c.args.tree.now c.in-Hole.variable c.is_type_sought.result _ c.in-Hole.is c.is_type_sought.ensures c.whole_if.ensures

pub place-returns-in-Open : goal.place-returns-in-Open
place-returns-in-Open t c = λ Z w. open_placed Z.fields (size_sought c.args.sought) (type_sought c.args.sought) c.args.tree.now _ _ _ c.in-Open.is

pub place-returns-then-is_size_sought : goal.place-returns-then-is_size_sought
place-returns-then-is_size_sought t c = λ Z w. level_here Z.fields (size_sought c.args.sought) (type_sought c.args.sought) c.args.tree.now _ _ _ c.is_size_sought.result c.in-Level.is c.is_size_sought.ensures _ c.if-is_size_sought.true c.whole.ensures

pub place-returns-in-Some : goal.place-returns-in-Some
place-returns-in-Some t c = λ Z w. level_in Z.fields (size_sought c.args.sought) (type_sought c.args.sought) c.args.tree.now _ _ _ c.is_size_sought.result c.in-Level.is c.is_size_sought.ensures c.in_ok-inside-in-Level.field-0 c.if-is_size_sought.false (c.in_ok-inside-in-Level.ensures Z w) c.in-Some.inside c.below.result c.in-Some.is c.below.ensures

pub place-returns-in-None : goal.place-returns-in-None
place-returns-in-None t c = λ Z w. level_none Z.fields (size_sought c.args.sought) (type_sought c.args.sought) c.args.tree.now _ _ _ c.is_size_sought.result c.in-Level.is c.is_size_sought.ensures c.in_ok-inside-in-Level.field-0 c.if-is_size_sought.false (c.in_ok-inside-in-Level.ensures Z w) c.in-None.is

pub place-returns-in-Tuple : goal.place-returns-in-Tuple
place-returns-in-Tuple t c = λ Z w. tuple_placed Z.fields (size_sought c.args.sought) (type_sought c.args.sought) c.args.tree.now _ _ _ c.in-Built.is c.part_place.result c.in-Tuple.is (c.part_place.ensures Z w)

pub place-returns-in_ok-names-in-Record : goal.place-returns-in_ok-names-in-Record
place-returns-in_ok-names-in-Record t c = λ Z w. record_placed Z.fields (size_sought c.args.sought) (type_sought c.args.sought) c.args.tree.now _ _ _ c.in-Built.is _ _ c.field_place.result c.in-Record.is (c.in_ok-names-in-Record.ensures Z w) (c.field_place.ensures Z w)

pub place-returns-in-Fun : goal.place-returns-in-Fun
place-returns-in-Fun t c = λ Z w. fun_placed Z.fields (size_sought c.args.sought) (type_sought c.args.sought) c.args.tree.now _ _ _ _ c.in-Fun.is

pub part_place-returns-in-Some : goal.part_place-returns-in-Some
part_place-returns-in-Some t c = λ Z w. part_found Z.fields (size_sought c.args.sought) (type_sought c.args.sought) c.args.parts.now c.loop-part.part-index c.loop-part.number c.part-item.result c.loop-part-test.true c.part-item.is (c.loop-part.invariant Z w) c.in_ok-inside.field-0 (c.in_ok-inside.ensures Z w) c.in-Some.inside c.below.result c.in-Some.is c.below.ensures

pub part_place-loop-part-preserved : goal.part_place-loop-part-preserved
part_place-loop-part-preserved t c = λ Z w. part_on Z.fields (size_sought c.args.sought) (type_sought c.args.sought) c.args.parts.now c.loop-part.part-index c.loop-part.number c.part-item.result c.loop-part-test.true c.part-item.is (c.loop-part.invariant Z w) c.in_ok-inside.field-0 (c.in_ok-inside.ensures Z w) c.in-Some-checked_add.next c.in-Some-checked_add.ensures.1 c.in_default.is

pub part_place-returns : goal.part_place-returns
part_place-returns t c = λ Z w. parts_over Z.fields (size_sought c.args.sought) (type_sought c.args.sought) c.args.parts.now c.loop-part.part-index c.loop-part.number c.loop-part-test.false (c.loop-part.invariant Z w)

pub field_place-returns-in-Some : goal.field_place-returns-in-Some
field_place-returns-in-Some t c = λ Z w. field_found Z.fields (size_sought c.args.sought) (type_sought c.args.sought) c.args.parts.now c.loop-i.i c.args.names.now c.index-parts-i.result c.loop-i-test.true c.loop-i.invariant.many c.index-parts-i.is (c.loop-i.invariant.found Z w) c.in_ok-inside.field-0 (c.in_ok-inside.ensures Z w) _ c.in-Some.inside c.below.result c.in-Some.is c.below.ensures

pub field_place-loop-i-preserved : goal.field_place-loop-i-preserved
field_place-loop-i-preserved t c = record {
  many = c.loop-i.invariant.many;
  found = λ Z w. field_on Z.fields (size_sought c.args.sought) (type_sought c.args.sought) c.args.parts.now c.loop-i.i c.args.names.now c.index-parts-i.result c.loop-i-test.true c.loop-i.invariant.many c.index-parts-i.is (c.loop-i.invariant.found Z w) c.in_ok-inside.field-0 (c.in_ok-inside.ensures Z w) c.in_default.is;
}

pub field_place-returns : goal.field_place-returns
field_place-returns t c = λ Z w. fields_over Z.fields (size_sought c.args.sought) (type_sought c.args.sought) c.args.parts.now c.loop-i.i c.args.names.now c.loop-i-test.false (c.loop-i.invariant.found Z w)
