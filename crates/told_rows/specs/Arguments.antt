-- The arguments of primitives, and what primitives tell of them, as code has them.
use Rattle.std.specs.Prelude.{List, map}
use Rattle.fut_blocks.specs.declared.row.RowShape.{RowShape}
use Rattle.fut_blocks.specs.Rows.{Row, row_of, extent_of, Scalar_row, Unknown_row}
use Rattle.unfold.specs.Telling as telling
use Rattle.unfold.specs.Telling.{Of_row, Of_rows, mapped_rows, first_row, last_row, element_row, zipped_row, unzipped_row, replicated, counted, tabulated, indices_row, unflattened, transposed, same_row}
use Rattle.told_rows.specs.declared.arguments.Argument.{Argument}
use Rattle.told_rows.specs.declared.arguments.Told.{Told}
use Rattle.told_rows.specs.declared.arguments.Told.TheVariants as told
use Rattle.told_rows.specs.declared.rules.Rule.{Rule}
use Rattle.told_rows.specs.declared.rules.Rule.TheVariants as rule

abbrev pub argument_of : Argument → telling.Argument
argument_of a = (row_of a.row.now, extent_of a.worth)

abbrev pub arguments_of : List Argument → List telling.Argument
arguments_of = map argument_of

abbrev pub rows_of : List RowShape → List Row
rows_of = map row_of

abbrev pub told_of : Told → telling.Telling
told_of (told.Row r) = Of_row (row_of r.now)
told_of (told.Rows e rs) = Of_rows (extent_of e) (rows_of rs.now)

-- how the primitives of one rule tell
abbrev pub tells_by : Rule → List telling.Argument → telling.Telling
tells_by rule.Mapped bs = mapped_rows bs
tells_by rule.First bs = first_row bs
tells_by rule.Last bs = last_row bs
tells_by rule.Element bs = element_row bs
tells_by rule.Zipped bs = zipped_row bs
tells_by rule.Unzipped bs = unzipped_row bs
tells_by rule.Replicated bs = replicated bs
tells_by rule.Counted bs = counted bs
tells_by rule.Tabulated bs = tabulated bs
tells_by rule.Indices bs = indices_row bs
tells_by rule.Unflattened bs = unflattened bs
tells_by rule.Transposed bs = transposed bs
tells_by rule.Same bs = same_row bs
tells_by (rule.Scalar t) bs = Of_row (Scalar_row t)
tells_by rule.Unknown bs = Of_row Unknown_row
