-- The data of a result as a value. A value has a size for each level; an array without rows may have none for the levels below,
-- and then these are 0.
use Rattle.std.specs.Prelude.{◌≡◌, ℕ, zero, suc, List, [], ◌∷◌}
use Rattle.fut_scalar.specs.declared.scalar.ScalarType.{ScalarType}
use Rattle.fut_scalar.specs.declared.sizes.DataType.{DataType}
use Rattle.fut_value.specs.Data.{Shape, Array_shape, Datum, Array_datum, Datums, no_datum, datum_and}
use Rattle.fut_value.specs.Values.{shape_with}

-- the sizes of so many levels
unfoldable pub sizes_in : (rank : ℕ) → Shape → List ℕ
sizes_in zero h = []
sizes_in (suc r) (Array_shape n h) = n ∷ sizes_in r h
sizes_in (suc r) h = 0 ∷ sizes_in r h

-- the outermost size, and what is below it
abbrev pub IsLevel : Shape → ℕ → Shape → Type 0
IsLevel h n below = (r : ℕ) → sizes_in (suc r) h ≡ n ∷ sizes_in r below

-- data of so many levels, each with a size
unfoldable mutual
  pub met : ScalarType → (rank : ℕ) → Datum → Datum
  met t zero d = d
  met t (suc r) (Array_datum row ds) = Array_datum (shape_with t (sizes_in r row)) (all_met t r ds)
  met t (suc r) d = d

  pub all_met : ScalarType → (rank : ℕ) → Datums → Datums
  all_met t r no_datum = no_datum
  all_met t r (datum_and d ds) = datum_and (met t r d) (all_met t r ds)

-- components of a result, each of its type
abbrev pub each_met : List DataType → List Datum → List Datum
each_met [] ds = []
each_met (t ∷ ts) [] = []
each_met (t ∷ ts) (d ∷ ds) = met t.elem t.rank d ∷ each_met ts ds
