-- A numbering of names and records, of which a part is known.
use Rattle.std.specs.Prelude.{◌≡◌, ℕ, ◌<◌, ◌≤◌, List, [], ◌∷◌, ◌++◌, length, Option, Some, None}
use Rattle.std.specs.Str.{bytes_eq}
use Rattle.std.specs.Cmp.Lexicographic.{pointwise}
use Rattle.std.specs.Bool.{nat_eq}
use Rattle.std.specs.HashMap.{HashMap, get_by}
use Rattle.std.specs.declared.vec.Vec.{Vec}
use Rattle.fut_ast.specs.Sorts.{Text}
use Rattle.fut_types.specs.declared.shapes.Fields.{Fields}
use Rattle.fut_types.specs.declared.shapes.ShapeTable.{ShapeTable}
use Rattle.fut_types.specs.Shapes.{IsTable, Tells, position_at, fields_of, most_parts}
use Rattle.fut_typing.specs.Names.{Names, AreNames, Spells}
use Rattle.type_rules.specs.declared.labels.Labels.{Labels}

-- the number of a name, as far as it has one
unfoldable pub number_of : Labels → Text → Option ℕ
number_of labels s = get_by (λ k. bytes_eq s k.now) labels.numbers

-- the number of the record with these labels
unfoldable pub row_in : {Y S : Type 0} → HashMap (Vec ℕ Y) ℕ S → List ℕ → Option ℕ
row_in rows ls = get_by (λ k. pointwise nat_eq ls k.items) rows

abbrev pub record_of : Labels → List ℕ → Option ℕ
record_of labels ls = row_in labels.rows ls

-- what is told of the number that a name spells: the number, or that it is none or past all parts
abbrev pub Tells_number : (ℕ → Type 0) → Option ℕ → Type 0
Tells_number Is (Some m) = Is m
Tells_number Is None = (m : ℕ) → Is m → most_parts ≤ m

-- the table in hand is well-formed: each name and each record has one number, each number is that of one, and a name that is a
-- position names that part
pub record IsLabels (labels : Labels) (table : ShapeTable) : Type 0 where
  pub is_table : IsTable table
  pub within : (s : Text) (n : ℕ) → number_of labels s ≡ Some n → n < length table.positions
  pub name : ℕ → Text
  pub named : (n : ℕ) → n < length table.positions → number_of labels (name n) ≡ Some n
  pub one : (s t : Text) (n : ℕ) → number_of labels s ≡ Some n → number_of labels t ≡ Some n → s ≡ t
  pub spelled : (s : Text) (n : ℕ) → number_of labels s ≡ Some n → Tells_number (Spells s) (position_at table n)
  pub rows : (n : ℕ) → n < length table.records → record_of labels (fields_of table n) ≡ Some n
  pub found : (ls : List ℕ) (n : ℕ) → record_of labels ls ≡ Some n → (n < length table.records) × (fields_of table n ≡ ls)

-- names, records and positions are added, and all keep their numbers
pub record Goes_on (labels : Labels) (table : ShapeTable) (labels' : Labels) (table' : ShapeTable) : Type 0 where
  pub numbers : (s : Text) (n : ℕ) → number_of labels s ≡ Some n → number_of labels' s ≡ Some n
  pub fields : List Fields
  pub records : table'.records ≡ table.records ++ fields
  pub row : List ℕ
  pub labels_are : table'.labels ≡ table.labels ++ row
  pub places : List (Option ℕ)
  pub positions : table'.positions ≡ table.positions ++ places

-- N gives the names that are known their numbers
pub record Labelled (labels : Labels) (table : ShapeTable) (N : Names) : Type 0 where
  pub label : (s : Text) (n : ℕ) → number_of labels s ≡ Some n → N.label s ≡ n
  pub shapes : Tells table N.shapes

-- there are names that go on from the table in hand
abbrev pub Goes_on_to_names : Type 0
Goes_on_to_names = (labels : Labels) (table : ShapeTable) → IsLabels labels table → (N : Names) × AreNames N × Labelled labels table N

-- a record with these labels is added
pub record One_more (table : ShapeTable) (row : List ℕ) (table' : ShapeTable) : Type 0 where
  pub records : table'.records ≡ table.records ++ record { first = length table.labels; count = length row } ∷ []
  pub labels_are : table'.labels ≡ table.labels ++ row
  pub positions : table'.positions ≡ table.positions
