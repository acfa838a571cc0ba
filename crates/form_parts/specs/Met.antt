-- Forms that are told, and integers that are there or not.
use Rattle.std.specs.Prelude.{ℤ, List, map, Option, Some, None, Result, Ok, Err}
use Rattle.std.specs.Borrow.{Bor}
use Rattle.fut_ast.specs.Sorts.{Text}
use Rattle.fut_value.specs.Data.{Shape}
use Rattle.fut_blocks.specs.declared.row.FieldShape.{FieldShape}
use Rattle.array_data.specs.declared.form.Form.{Form}
use Rattle.array_data.specs.declared.sizes.Exact.{Exact}
use Rattle.array_data.specs.declared.stop.Stop.{Stop}
use Rattle.array_data.specs.Answers.{exact_held}
use Rattle.array_data.specs.Held.{shape_held}

abbrev pub as_shape : Result Form Stop → Result Shape Stop
as_shape (Ok f) = Ok (shape_held f)
as_shape (Err e) = Err e

abbrev pub found_held : Option (Bor Form) → Option Shape
found_held (Some f) = Some (shape_held f.now)
found_held None = None

abbrev pub as_found : Result (Option (Bor Form)) Stop → Result (Option Shape) Stop
as_found (Ok o) = Ok (found_held o)
as_found (Err e) = Err e

abbrev pub exact_met : Option Exact → Option ℤ
exact_met (Some z) = Some (exact_held z)
exact_met None = None

-- the names of fields
abbrev pub field_texts : List FieldShape → List Text
field_texts fs = map (λ f. f.name.now) fs
