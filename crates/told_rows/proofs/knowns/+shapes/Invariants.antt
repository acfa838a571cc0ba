use Rattle.std.proofs.Common.{◌≡◌, drop, map}
use Rattle.unfold.specs.Held.{known_of, field_of, fields_known}
use Rattle.unfold.specs.Knowns.{knowns}
use Rattle.unfold.specs.Telling.{known_rows, field_rows}
use Rattle.told_rows.proofs.RowLists.{before, put_row, put_field}
use Rattle.told_rows.proofs.knowns.+shapes.Given as goal

abbrev pub invariant-known_rows-loop-part : goal.invariant-known_rows-loop-part
invariant-known_rows-loop-part l = known_rows (knowns (map known_of l.parts)) ≡ before put_row l.made.items (known_rows (knowns (map known_of (drop l.part-index l.parts))))

abbrev pub invariant-field_rows-loop-field : goal.invariant-field_rows-loop-field
invariant-field_rows-loop-field l = field_rows (fields_known (map field_of l.fields)) ≡ before put_field l.made.items (field_rows (fields_known (map field_of (drop l.field-index l.fields))))
