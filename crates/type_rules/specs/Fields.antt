-- Names with their numbers.
use Rattle.std.specs.Prelude.{◌≡◌, ◌↔◌, ℕ, ◌<◌, List, [], ◌∷◌, length, Some}
use Rattle.std.specs.List.{Contains}
use Rattle.fut_types.specs.declared.shapes.ShapeTable.{ShapeTable}
use Rattle.fut_types.specs.Shapes.{fields_of}
use Rattle.fut_typing.specs.Names.{Once}
use Rattle.fut_ast.specs.Sorts.{Text}
use Rattle.type_rules.specs.declared.labels.Labels.{Labels}
use Rattle.type_rules.specs.Labels.{number_of}

-- these are the numbers of these names
unfoldable pub Numbered : Labels → List Text → List ℕ → Type 0
Numbered labels [] [] = Unit {0}
Numbered labels [] (n ∷ ns) = ⊥
Numbered labels (s ∷ ss) [] = ⊥
Numbered labels (s ∷ ss) (n ∷ ns) = (number_of labels s ≡ Some n) × Numbered labels ss ns

-- n is the number of the record with just these labels, each of which stands once
pub record Row_is (table : ShapeTable) (row : List ℕ) (n : ℕ) : Type 0 where
  pub once : Once row
  pub within : n < length table.records
  pub same : (l : ℕ) → Contains (fields_of table n) l ↔ Contains row l
  pub long : length (fields_of table n) ≡ length row
