use Rattle.std.proofs.Common.{arith}
use Rattle.told_rows.proofs.PlaceForms.{rows_smaller, part_smaller, field_smaller, row_whole, row_rows, row_part, row_field}
use Rattle.told_rows.proofs.places.+at_row.Goals as goal

pub returns-in-Whole : goal.returns-in-Whole
returns-in-Whole t c = row_whole c.args.path.now _ c.in-Whole.is

pub returns-in_ok-rows-in-Rows : goal.returns-in_ok-rows-in-Rows
returns-in_ok-rows-in-Rows t c = row_rows c.args.path.now _ c.at_row.result _ _ c.in-Rows.is c.in_ok-rows-in-Rows.ensures c.at_row.ensures

pub returns-in_ok-part-in-Part : goal.returns-in_ok-part-in-Part
returns-in_ok-part-in-Part t c = row_part c.args.path.now _ c.at_row-in-Part.result _ _ _ c.in-Part.is c.in_ok-part-in-Part.ensures c.at_row-in-Part.ensures

pub returns-in_ok-field-in-Field : goal.returns-in_ok-field-in-Field
returns-in_ok-field-in-Field t c = row_field c.args.path.now _ c.at_row-in-Field.result _ _ _ c.in-Field.is c.in_ok-field-in-Field.ensures c.at_row-in-Field.ensures

pub at_row-requires : goal.at_row-requires
at_row-requires t c = (omega (arith, c.decreases, rows_smaller c.args.path.now _ c.in-Rows.is), tt)

pub at_row-requires-in-Part : goal.at_row-requires-in-Part
at_row-requires-in-Part t c = (omega (arith, c.decreases, part_smaller c.args.path.now _ _ c.in-Part.is), tt)

pub at_row-requires-in-Field : goal.at_row-requires-in-Field
at_row-requires-in-Field t c = (omega (arith, c.decreases, field_smaller c.args.path.now _ _ c.in-Field.is), tt)
