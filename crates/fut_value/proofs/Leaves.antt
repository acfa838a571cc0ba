-- Words and weight of a shape are those of its leaves.
use Rattle.std.proofs.Common.{◌≡◌, ℕ, ◌+◌, ◌*◌, List, [], ◌∷◌, ◌++◌, map, arith, refl, sym, ap, ◌∙◌}
use Rattle.std.specs.Prelude.{max}
use Rattle.std.proofs.Math.Nat.{mul-add, mul-zero}
use Rattle.fut_value.specs.Data.{Shape, Scalar_shape, Tuple_shape, Record_shape, Array_shape, Unmet_shape, Shapes, no_shape, shape_and, Named_shapes, no_named_shape, named_shape_and, words, all_words, named_words, heaviest, heaviest_of, heaviest_named, weight}
use Rattle.fut_value.specs.Leaves.{in_rows, leaves, all_leaves, named_leaves, extent, peak, extents, peaks, WordsOfLeaves, WeightOfLeaves}

extents-append : (ds es : List (List ℕ)) → extents (ds ++ es) ≡ extents ds + extents es
extents-append [] es = omega arith
extents-append (d ∷ ds) es = let e = extents-append ds es in omega (arith, e)

peaks-append : (k : ℕ) (ds es : List (List ℕ)) → peaks k (ds ++ es) ≡ max (peaks k ds) (peaks k es)
peaks-append k [] es = omega arith
peaks-append k (d ∷ ds) es = let e = peaks-append k ds es in omega (arith, e)

-- ---- words

extents-each : (n : ℕ) (ds : List (List ℕ)) → extents (map (λ sizes. n ∷ sizes) ds) ≡ n * extents ds
extents-each n [] = sym (mul-zero n)
extents-each n (d ∷ ds) = ap (λ z. n * extent d + z) (extents-each n ds) ∙ sym (mul-add n (extent d) (extents ds))

extents-rows : (n : ℕ) (ds : List (List ℕ)) → extents (in_rows n ds) ≡ n * extents ds
extents-rows n [] = omega (arith, mul-zero n)
extents-rows n (d ∷ ds) = extents-each n (d ∷ ds)

mutual
  unfolding words all_words named_words leaves all_leaves named_leaves

  pub words_of_leaves : WordsOfLeaves
  words_of_leaves (Scalar_shape t) = refl
  words_of_leaves (Tuple_shape hs) = all_words_of hs
  words_of_leaves (Record_shape hs) = named_words_of hs
  words_of_leaves (Array_shape n h) = ap (λ z. n * z) (words_of_leaves h) ∙ sym (extents-rows n (leaves h))
  words_of_leaves Unmet_shape = refl

  all_words_of : (hs : Shapes) → all_words hs ≡ extents (all_leaves hs)
  all_words_of no_shape = refl
  all_words_of (shape_and h hs) = let e = words_of_leaves h in let e' = all_words_of hs in let a = extents-append (leaves h) (all_leaves hs) in omega (arith, e, e', a)

  named_words_of : (hs : Named_shapes) → named_words hs ≡ extents (named_leaves hs)
  named_words_of no_named_shape = refl
  named_words_of (named_shape_and f h hs) = let e = words_of_leaves h in let e' = named_words_of hs in let a = extents-append (leaves h) (named_leaves hs) in omega (arith, e, e', a)

-- ---- products of sizes

peaks-each : (k n : ℕ) (ds : List (List ℕ)) → max (k * n) (peaks k (map (λ sizes. n ∷ sizes) ds)) ≡ max (k * n) (peaks (k * n) ds)
peaks-each k n [] = refl
peaks-each k n (d ∷ ds) = let e = peaks-each k n ds in omega (arith, e)

peaks-rows : (k n : ℕ) (ds : List (List ℕ)) → peaks k (in_rows n ds) ≡ max (k * n) (peaks (k * n) ds)
peaks-rows k n [] = let z = mul-zero (k * n) in omega (arith, z)
peaks-rows k n (d ∷ ds) = let e = peaks-each k n ds in omega (arith, e)

mutual
  unfolding heaviest heaviest_of heaviest_named leaves all_leaves named_leaves

  heaviest_is : (k : ℕ) (h : Shape) → heaviest k h ≡ peaks k (leaves h)
  heaviest_is k (Scalar_shape t) = refl
  heaviest_is k (Tuple_shape hs) = heaviest_of_is k hs
  heaviest_is k (Record_shape hs) = heaviest_named_is k hs
  heaviest_is k (Array_shape n h) = ap (max (k * n)) (heaviest_is (k * n) h) ∙ sym (peaks-rows k n (leaves h))
  heaviest_is k Unmet_shape = refl

  heaviest_of_is : (k : ℕ) (hs : Shapes) → heaviest_of k hs ≡ peaks k (all_leaves hs)
  heaviest_of_is k no_shape = refl
  heaviest_of_is k (shape_and h hs) = let e = heaviest_is k h in let e' = heaviest_of_is k hs in let a = peaks-append k (leaves h) (all_leaves hs) in omega (arith, e, e', a)

  heaviest_named_is : (k : ℕ) (hs : Named_shapes) → heaviest_named k hs ≡ peaks k (named_leaves hs)
  heaviest_named_is k no_named_shape = refl
  heaviest_named_is k (named_shape_and f h hs) = let e = heaviest_is k h in let e' = heaviest_named_is k hs in let a = peaks-append k (leaves h) (named_leaves hs) in omega (arith, e, e', a)

pub weight_of_leaves : WeightOfLeaves
unfolding weight
weight_of_leaves h = let e = heaviest_is 1 h in let e' = words_of_leaves h in omega (arith, e, e')
