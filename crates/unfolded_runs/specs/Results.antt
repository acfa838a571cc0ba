-- The data that an entry takes and gives: scalars, and arrays of scalars with the sizes of each level; and the components of a
-- result, which is one of these or a tuple of them.
use Rattle.std.specs.Prelude.{◌≡◌, ℕ, List, [], ◌∷◌, length, Bool, true}
use Rattle.fut_scalar.specs.declared.sizes.DataType.{DataType}
use Rattle.fut_value.specs.Data.{Datum, Tuple_datum, listed}
use Rattle.fut_value.specs.Values.{datum_with}

-- the data of as many sizes as the type has, and of some words
pub record Is_argument (t : DataType) (d : Datum) : Type 0 where
  pub sizes : List ℕ
  pub words : List ℕ
  pub rank : length sizes ≡ t.rank
  pub is : d ≡ datum_with t.elem sizes words

-- an argument for each parameter
abbrev pub Are_arguments : List DataType → List Datum → Type 0
Are_arguments [] [] = Unit {0}
Are_arguments [] (d ∷ ds) = ⊥
Are_arguments (t ∷ ts) [] = ⊥
Are_arguments (t ∷ ts) (d ∷ ds) = Is_argument t d × Are_arguments ts ds

-- the components of a result, which may be a tuple
abbrev pub components_of : (tuple : Bool) → Datum → List Datum
components_of true (Tuple_datum ds) = listed ds
components_of tuple d = d ∷ []

-- these components of blocks, opened, are those of a result: a tuple may be one component, as where it is the row of an array
abbrev pub opened : (tuple : Bool) → List Datum → List Datum
opened true (Tuple_datum ds ∷ []) = listed ds
opened tuple ds = ds
