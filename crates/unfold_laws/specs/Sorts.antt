-- The types of the components of data: a scalar and an array of scalars is one, and a tuple has those of its parts, in order.
-- Of other types nothing is said.
use Rattle.std.specs.Prelude.{◌≡◌, ℕ, zero, suc, ◌++◌, List, [], ◌∷◌}
use Rattle.fut_scalar.specs.declared.scalar.ScalarType.{ScalarType}
use Rattle.fut_scalar.specs.declared.sizes.DataType.{DataType}
use Rattle.fut_types.specs.declared.Head.TheVariants as head
use Rattle.fut_types.specs.Types.{Ty, Made, Tys, none, more}
use Rattle.fut_value.specs.Data.{Datum, Tuple_datum, Datums, no_datum, datum_and}

-- the type of a scalar, or of an array of so many dimensions of such scalars
abbrev pub Is_type : ScalarType → ℕ → Ty → Type 0
Is_type x zero (Made (head.Scalar y) ts) = y ≡ x
Is_type x (suc r) (Made head.Array (more t none)) = Is_type x r t
Is_type x r t = ⊥

-- the first types, up to a rest of them, are those of the components
mutual
  pub data Sorts : Ty → List DataType → List DataType → Type 0 where
    sorts_one : {t : Ty} {d : DataType} {rest : List DataType} → Is_type d.elem d.rank t → Sorts t (d ∷ rest) rest
    sorts_tuple : {ts : Tys} {ss rest : List DataType} → All_sorts ts ss rest → Sorts (Made head.Tuple ts) ss rest

  pub data All_sorts : Tys → List DataType → List DataType → Type 0 where
    sorts_none : {ss : List DataType} → All_sorts none ss ss
    sorts_more : {t : Ty} {ts : Tys} {ss us rest : List DataType} → Sorts t ss us → All_sorts ts us rest → All_sorts (more t ts) ss rest

-- the parts of tuples, and of tuples in them, one after the other
abbrev mutual
  pub spread : Datum → List Datum
  spread (Tuple_datum ds) = all_spread ds
  spread d = d ∷ []

  pub all_spread : Datums → List Datum
  all_spread no_datum = []
  all_spread (datum_and d ds) = spread d ++ all_spread ds

abbrev pub parts : List Datum → List Datum
parts [] = []
parts (d ∷ ds) = spread d ++ parts ds
