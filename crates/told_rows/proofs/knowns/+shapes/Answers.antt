use Rattle.std.proofs.Common.{ap, ◌∙◌, map}
use Rattle.fut_blocks.specs.Rows as blocks
use Rattle.fut_blocks.specs.Rows.{row_of, rows, named_row_of}
use Rattle.told_rows.proofs.KnownForms.{scalar_shape, tuple_shape, record_shape, function_shape, primitive_shape, rows_more, rows_end, fields_more, fields_end}
use Rattle.told_rows.proofs.knowns.+shapes.Goals as goal

pub known_row-returns-in-Scalar : goal.known_row-returns-in-Scalar
known_row-returns-in-Scalar t c = scalar_shape c.args.known.now c.shape.result c.in-Scalar.atom c.in-Scalar.is c.shape.ensures

pub known_row-returns-in_ok-rows-in-Tuple : goal.known_row-returns-in_ok-rows-in-Tuple
known_row-returns-in_ok-rows-in-Tuple t c = tuple_shape c.args.known.now c.shape-in-Tuple.result c.in-Tuple.parts c.in_ok-rows-in-Tuple.rows c.in-Tuple.is c.in_ok-rows-in-Tuple.ensures c.shape-in-Tuple.ensures

pub known_row-returns-in_ok-rows-in-Record : goal.known_row-returns-in_ok-rows-in-Record
known_row-returns-in_ok-rows-in-Record t c = record_shape c.args.known.now c.shape-in-Record.result c.in-Record.fields c.in_ok-rows-in-Record.rows c.in-Record.is c.in_ok-rows-in-Record.ensures c.shape-in-Record.ensures

pub known_row-returns-in-Function : goal.known_row-returns-in-Function
known_row-returns-in-Function t c = function_shape c.args.known.now c.unknown.result.now c.unknown.ensures c.in-Function.field-0 c.in-Function.is

pub known_row-returns-in-Primitive : goal.known_row-returns-in-Primitive
known_row-returns-in-Primitive t c = primitive_shape c.args.known.now c.unknown-in-Primitive.result.now c.unknown-in-Primitive.ensures c.in-Primitive.field-0 c.in-Primitive.field-1 c.in-Primitive.field-2 c.in-Primitive.is

pub known_rows-loop-part-preserved : goal.known_rows-loop-part-preserved
known_rows-loop-part-preserved t c =
    rows_more c.args.parts.now c.loop-part.part-index c.loop-part.made.items c.loop-part.invariant _ c.in_ok-row.row.now c.push.new.self.items c.loop-part-test.true c.in_ok-row.ensures c.in_ok-push.ensures.items

pub known_rows-returns : goal.known_rows-returns
known_rows-returns t c = ap (λ z. rows (map row_of z)) c.into_bump_slice.ensures ∙ rows_end c.args.parts.now c.loop-part.part-index c.loop-part.made.items c.loop-part.invariant c.loop-part-test.false

pub field_rows-loop-field-preserved : goal.field_rows-loop-field-preserved
field_rows-loop-field-preserved t c =
    fields_more c.args.fields.now c.loop-field.field-index c.loop-field.made.items c.loop-field.invariant _ c.in_ok-row.row.now c.push.new.self.items c.loop-field-test.true c.in_ok-row.ensures c.in_ok-push.ensures.items

pub field_rows-returns : goal.field_rows-returns
field_rows-returns t c = ap (λ z. blocks.named_rows (map named_row_of z)) c.into_bump_slice.ensures ∙ fields_end c.args.fields.now c.loop-field.field-index c.loop-field.made.items c.loop-field.invariant c.loop-field-test.false
