-- What calls put behind words.
use Rattle.std.specs.Prelude.{◌≡◌, ◌<◌, ◌*◌, ℕ, List, ◌++◌, All, length, map}
use Rattle.fut_scalar.specs.declared.scalar.ScalarType.{ScalarType}
use Rattle.fut_arithmetic.specs.Words.{scalar_of_word}
use Rattle.fut_value.specs.Data.{Datum, Scalar_datum, Scalar_shape, Array_datum, datums}
use Rattle.fut_value.specs.Values.{product, cut, datum_with, word_count}
use Rattle.data_values.specs.Met.{met, all_met}

-- the words of data of these sizes, behind those from before
pub record Words_put (t : ScalarType) (sizes : List ℕ) (d : Datum) (old new : List ℕ) : Type 0 where
  pub words : List ℕ
  pub behind : new ≡ old ++ words
  pub long : length words ≡ product sizes
  pub fit : All (λ w. w < word_count t) words
  pub same : datum_with t sizes words ≡ met t (length sizes) d

-- the words of rows of these sizes, behind those from before
pub record Rows_put (t : ScalarType) (sizes : List ℕ) (ds : List Datum) (old new : List ℕ) : Type 0 where
  pub words : List ℕ
  pub behind : new ≡ old ++ words
  pub long : length words ≡ length ds * product sizes
  pub fit : All (λ w. w < word_count t) words
  pub same : datums (map (datum_with t sizes) (cut (length ds) (product sizes) words)) ≡ all_met t (length sizes) (datums ds)

-- the array of these words
abbrev pub row_datum : ScalarType → List ℕ → Datum
row_datum t ws = Array_datum (Scalar_shape t) (datums (map (λ w. Scalar_datum (scalar_of_word t w)) ws))
