-- The words of arrays among components are those of the data.
use Rattle.std.proofs.Common.{◌≡◌, ℕ, ◌+◌, ◌*◌, List, [], ◌∷◌, ◌++◌, map, length, refl, sym, ap, ◌∙◌, arith}
use Rattle.fut_value.specs.Data.{Shape, Scalar_shape, Tuple_shape, Record_shape, Array_shape, Datum, Scalar_datum, Tuple_datum, Record_datum, Array_datum, Datums, Named_datums, listed, shape_of, shapes_of, named_shapes_of, words}
use Rattle.fut_value.specs.Data as data_of
use Rattle.fut_value.specs.Leaves.{in_rows, leaves, extent, extents}
use Rattle.fut_value.proofs.Leaves.{words_of_leaves}
use Rattle.core_ir.specs.Bundles.{One, Many, Row, columns, bundle, others, array_words}
use Rattle.core_values.specs.Components.{components, all_components, named_components, each_components, Regular, a_scalar, a_tuple, a_record, an_array, All_regular, no_more, and_more, Named_regular, no_named_more, and_named}
use Rattle.core_values.specs.Claims.{CountsAgree}

words_append : (cs bs : Row) → array_words (cs ++ bs) ≡ array_words cs + array_words bs
words_append [] bs = omega arith
words_append (One s ∷ cs) bs = words_append cs bs
words_append (Many ds ws ∷ cs) bs = let e = words_append cs bs in omega (arith, e)

columns_words : (n : ℕ) (ds : List (List ℕ)) (rows : List Row) → array_words (columns n ds rows) ≡ extents (map (λ sizes. n ∷ sizes) ds)
columns_words n [] rows = refl
columns_words n (d ∷ ds) rows = ap (λ z. n * extent d + z) (columns_words n ds (map others rows))

pub bundle_words : (n : ℕ) (ds : List (List ℕ)) (rows : List Row) → array_words (bundle n ds rows) ≡ extents (in_rows n ds)
bundle_words n [] rows = refl
bundle_words n (d ∷ ds) rows = columns_words n (d ∷ ds) rows

mutual
  unfolding components all_components named_components shape_of shapes_of named_shapes_of leaves words data_of.array_words data_of.all_array_words data_of.named_array_words

  counts : {d : Datum} → Regular d → array_words (components d) ≡ data_of.array_words (shape_of d)
  counts a_scalar = refl
  counts (a_tuple a) = counts_all a
  counts (a_record a) = counts_named a
  counts (an_array {row} {ds} o a) = bundle_words (length (listed ds)) (leaves row) (each_components ds) ∙ sym (words_of_leaves (Array_shape (length (listed ds)) row))

  counts_all : {ds : Datums} → All_regular ds → array_words (all_components ds) ≡ data_of.all_array_words (shapes_of ds)
  counts_all no_more = refl
  counts_all (and_more {d} {ds} g a) = let w = words_append (components d) (all_components ds) in let e = counts g in let e' = counts_all a in omega (arith, w, e, e')

  counts_named : {fs : Named_datums} → Named_regular fs → array_words (named_components fs) ≡ data_of.named_array_words (named_shapes_of fs)
  counts_named no_named_more = refl
  counts_named (and_named {d = d} {fs} g a) = let w = words_append (components d) (named_components fs) in let e = counts g in let e' = counts_named a in omega (arith, w, e, e')

pub counts_agree : CountsAgree
counts_agree d g = counts g
