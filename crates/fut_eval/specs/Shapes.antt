-- What is told of shapes and sizes, whatever names stand in the table.
use Rattle.std.specs.Prelude.{◌≡◌, ℕ, ℤ, pos, Bool, List, map, Option, Some, Result, Ok, Err}
use Rattle.fut_ast.specs.Sorts.{Text}
use Rattle.fut_value.specs.Data.{Shape, Named_shapes}
use Rattle.fut_meaning.specs.Arrays.{each_out}
use Rattle.fut_meaning.specs.Found.{agrees}
use Rattle.fut_meaning.specs.Outcomes.{and_then}
use Rattle.fut_meaning.specs.Places.{field_shape}
use Rattle.fut_blocks.specs.declared.row.FieldShape.{FieldShape}
use Rattle.fut_blocks.specs.declared.row.FieldTest.{FieldTest}
use Rattle.fut_blocks.specs.Meaning.{Component, Names}
use Rattle.fut_blocks.specs.Rows.{Row, Extent, Size_test, row_of, tests, named_tests, named_test_of}
use Rattle.fut_blocks.specs.Sizes.{row_shape, extent_worth, where_there, and_also, passes, all_pass, named_pass}
use Rattle.array_data.specs.declared.form.Form.{Form}
use Rattle.array_data.specs.declared.sizes.Exact.{Exact}
use Rattle.array_data.specs.declared.stop.Stop.{Stop}
use Rattle.array_data.specs.Answers.{Tells}
use Rattle.array_data.specs.Held.{shape_held, shapes}
use Rattle.form_parts.specs.Met.{exact_met}
use Rattle.fut_eval.specs.Answers.{Stands}

abbrev pub as_shapes : Result (List Form) Stop → Result (List Shape) Stop
as_shapes (Ok hs) = Ok (map shape_held hs)
as_shapes (Err e) = Err e

abbrev pub as_size : Result (Option Exact) Stop → Result (Option ℤ) Stop
as_size (Ok z) = Ok (exact_met z)
as_size (Err e) = Err e

abbrev pub as_length : Result ℕ Stop → Result (Option ℤ) Stop
as_length (Ok n) = Ok (Some (pos n))
as_length (Err e) = Err e

-- ---- shapes and sizes

unfoldable pub Row_told : List Component → Row → Result Shape Stop → Type 0
Row_told table row r = (env : Names Component) (n : ℕ) → Stands env n table → Tells (row_shape env row) r

unfoldable pub Rows_told : List Component → List Row → Result (List Shape) Stop → Type 0
Rows_told table rows r = (env : Names Component) (n : ℕ) → Stands env n table → Tells (each_out (row_shape env) rows) r

abbrev pub field_rows : List FieldShape → List Row
field_rows fs = map (λ f. row_of f.row) fs

-- the shape of missing rows is told; of others nothing is
pub data Missing_told (table : List Component) (row : Row) (many : ℕ) : Result Shape Stop → Type 0 where
  looked_up : {r : Result Shape Stop} → Row_told table row r → Missing_told table row many r
  not_missing : {h : Shape} → (many ≡ 0 → ⊥) → Missing_told table row many (Ok h)

unfoldable pub Extent_told : List Component → Extent → Result (Option ℤ) Stop → Type 0
Extent_told table e r = (env : Names Component) (n : ℕ) → Stands env n table → Tells (extent_worth env e) r

-- ---- tests of sizes

unfoldable pub Passes : List Component → Size_test → Shape → Result Bool Stop → Type 0
Passes table t h r = (env : Names Component) (n : ℕ) → Stands env n table → Tells (passes env t h) r

-- of an array of so many rows
unfoldable pub Rows_pass : List Component → Extent → Size_test → ℕ → Shape → Result Bool Stop → Type 0
Rows_pass table e t many h r = (env : Names Component) (n : ℕ) → Stands env n table → Tells (and_then (extent_worth env e) (λ z. and_also (agrees z many) (passes env t h))) r

unfoldable pub All_pass : List Component → List Size_test → List Shape → Result Bool Stop → Type 0
All_pass table ts hs r = (env : Names Component) (n : ℕ) → Stands env n table → Tells (all_pass env (tests ts) (shapes hs)) r

abbrev pub tested_fields : List FieldTest → List (Text × Size_test)
tested_fields fs = map named_test_of fs

unfoldable pub Named_pass : List Component → List (Text × Size_test) → Named_shapes → Result Bool Stop → Type 0
Named_pass table fs hs r = (env : Names Component) (n : ℕ) → Stands env n table → Tells (named_pass env (named_tests fs) hs) r

unfoldable pub Field_passes : List Component → Text → Size_test → Named_shapes → Result Bool Stop → Type 0
Field_passes table f t hs r = (env : Names Component) (n : ℕ) → Stands env n table → Tells (where_there (field_shape f hs) (passes env t)) r
