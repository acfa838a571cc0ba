-- What a type is, by its outermost form.
use Rattle.std.specs.Prelude.{◌≡◌, ◌≢◌, ℕ, Bool, true, false, List, length, Option, Some, None}
use Rattle.std.specs.Borrow.{Bor}
use Rattle.fut_types.specs.declared.Head.{Head}
use Rattle.fut_types.specs.declared.Head.TheVariants as head
use Rattle.fut_types.specs.Types.{Ty, Made, Tys, none, more}
use Rattle.fut_aliases.specs.Stars.{Stars, Row, StarRow}
use Rattle.fut_aliases.specs.Values.{Value, Parts, Values}
use Rattle.alias_values.specs.declared.trees.TypeTree.{TypeTree}
use Rattle.alias_values.specs.Trees.{row_of, types_of, values_of}
use Rattle.alias_patterns.specs.declared.forms.RecordType.{RecordType}
use Rattle.alias_patterns.specs.declared.forms.RowParts.{RowParts}

abbrev pub is_tuple : Head → Bool
is_tuple head.Tuple = true
is_tuple h = false

abbrev pub is_record : Head → Bool
is_record (head.Record n) = true
is_record h = false

abbrev pub is_fun : Head → Bool
is_fun head.Fun = true
is_fun h = false

-- a function's parameter and result, or that it is no function's type
abbrev pub Function_types : Ty → Option (Bor (List TypeTree)) → Type 0
Function_types t (Some ts) = (length ts.now ≡ 2) × (t ≡ Made head.Fun (types_of ts.now))
Function_types t None = (p r : Ty) → t ≢ Made head.Fun (more p (more r none))

abbrev pub Tuple_types : Ty → Option (Bor (List TypeTree)) → Type 0
Tuple_types t (Some ts) = t ≡ Made head.Tuple (types_of ts.now)
Tuple_types t None = (ts : Tys) → t ≢ Made head.Tuple ts

abbrev pub Record_types : Ty → Option RecordType → Type 0
Record_types t (Some r) = (n : ℕ) × (r.head ≡ head.Record n) × (t ≡ Made r.head (types_of r.types.now))
Record_types t None = (n : ℕ) (ts : Tys) → t ≢ Made (head.Record n) ts

-- a value of parts whose stars are a row
abbrev pub Row_parts : Stars → Value → Option RowParts → Type 0
Row_parts u v (Some r) = (u ≡ Row (row_of r.row.now)) × (v ≡ Parts r.head (values_of r.values.now))
Row_parts u v None = (us : StarRow) (h : Head) (vs : Values) → u ≡ Row us → v ≢ Parts h vs
