use Rattle.std.proofs.Common.{◌+◌, ◌*◌, map}
use Rattle.fut_blocks.specs.Rows.{row_of}
use Rattle.array_data.specs.Held.{held_all}
use Rattle.fut_eval.specs.Shapes.{field_rows}
use Rattle.fut_eval.proofs.Shaping.{Half_told}
use Rattle.fut_eval.proofs.shapes.+rows.Given as goal

abbrev pub decreases-told_form : goal.decreases-told_form
decreases-told_form l = 3 * l.room

abbrev pub decreases-told_forms : goal.decreases-told_forms
decreases-told_forms l = 3 * l.room + 1

abbrev pub decreases-told_fields : goal.decreases-told_fields
decreases-told_fields l = 3 * l.room + 1

abbrev pub decreases-length_at : goal.decreases-length_at
decreases-length_at l = 3 * l.room + 1

abbrev pub decreases-extent_at : goal.decreases-extent_at
decreases-extent_at l = 3 * l.room + 2

abbrev pub invariant-told_forms-loop-row : goal.invariant-told_forms-loop-row
invariant-told_forms-loop-row l = Half_told (held_all l.table) (map row_of l.rows) l.row-index l.forms

abbrev pub invariant-told_fields-loop-field : goal.invariant-told_fields-loop-field
invariant-told_fields-loop-field l = Half_told (held_all l.table) (field_rows l.fields) l.field-index l.forms
