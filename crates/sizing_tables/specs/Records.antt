-- The names of the fields of a program's records.
use Rattle.std.specs.Prelude.{◌≡◌, ◌<◌, ℕ, List, length, Some, slice_get}
use Rattle.std.specs.Borrow.{Bor}
use Rattle.fut_ast.specs.Sorts.{Text}
use Rattle.fut_flat.specs.Erased.{texts}
use Rattle.fut_types.specs.declared.shapes.ShapeTable.{ShapeTable}
use Rattle.fut_types.specs.Shapes.{fields_of}
use Rattle.type_rules.specs.Fields.{Numbered}
use Rattle.type_rules.specs.declared.labels.Labels.{Labels}

-- each is the names of a record of the table, which have the numbers that the record's labels are
pub record Are_fields (labels : Labels) (table : ShapeTable) (fields : List (Bor (List (Bor Text)))) : Type 0 where
  pub named : (n : ℕ) (fs : Bor (List (Bor Text))) → slice_get fields n ≡ Some fs → (n < length table.records) × Numbered labels (texts fs.now) (fields_of table n)
