-- The leaves of data: for each scalar in a row, the sizes of the arrays around it, from the outermost one on. An array whose rows
-- have no scalar has a leaf of no words, of its own size. Words and weight of a shape are those of its leaves, so data that is
-- kept as an array for each leaf has both at hand.
use Rattle.std.specs.Prelude.{◌≡◌, ℕ, ◌+◌, ◌*◌, max, List, [], ◌∷◌, ◌++◌, map}
use Rattle.fut_value.specs.Data.{Shape, Scalar_shape, Tuple_shape, Record_shape, Array_shape, Unmet_shape, Shapes, no_shape, shape_and, Named_shapes, no_named_shape, named_shape_and, words, weight}

-- as many rows with these leaves
abbrev pub in_rows : ℕ → List (List ℕ) → List (List ℕ)
in_rows n [] = (n ∷ 0 ∷ []) ∷ []
in_rows n (d ∷ ds) = map (λ sizes. n ∷ sizes) (d ∷ ds)

unfoldable mutual
  pub leaves : Shape → List (List ℕ)
  leaves (Scalar_shape t) = [] ∷ []
  leaves (Tuple_shape hs) = all_leaves hs
  leaves (Record_shape hs) = named_leaves hs
  leaves (Array_shape n h) = in_rows n (leaves h)
  leaves Unmet_shape = []

  pub all_leaves : Shapes → List (List ℕ)
  all_leaves no_shape = []
  all_leaves (shape_and h hs) = leaves h ++ all_leaves hs

  pub named_leaves : Named_shapes → List (List ℕ)
  named_leaves no_named_shape = []
  named_leaves (named_shape_and f h hs) = leaves h ++ named_leaves hs

-- the words of a leaf
abbrev pub extent : List ℕ → ℕ
extent [] = 1
extent (n ∷ sizes) = n * extent sizes

-- the greatest product of its sizes, from `k` on, each with those before it
abbrev pub peak : ℕ → List ℕ → ℕ
peak k [] = 0
peak k (n ∷ sizes) = max (k * n) (peak (k * n) sizes)

abbrev pub extents : List (List ℕ) → ℕ
extents [] = 0
extents (d ∷ ds) = extent d + extents ds

abbrev pub peaks : ℕ → List (List ℕ) → ℕ
peaks k [] = 0
peaks k (d ∷ ds) = max (peak k d) (peaks k ds)

-- words and weight are those of the leaves
abbrev pub WordsOfLeaves : Type 0
WordsOfLeaves = (h : Shape) → words h ≡ extents (leaves h)

abbrev pub WeightOfLeaves : Type 0
WeightOfLeaves = (h : Shape) → weight h ≡ max (peaks 1 (leaves h)) (extents (leaves h))
