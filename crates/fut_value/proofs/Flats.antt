-- Data of flat words.
use Rattle.std.proofs.Common.{◌≡◌, ◌<◌, ℕ, zero, suc, List, [], ◌∷◌, length, map, drop, arith, get_or, refl, sym, ap, ◌∙◌}
use Rattle.std.specs.Prelude.{true, false}
use Rattle.fut_scalar.specs.Integers.{FitsType}
use Rattle.fut_scalar.specs.declared.scalar.Scalar.{Scalar}
use Rattle.fut_scalar.specs.declared.scalar.Scalar.TheVariants as scalar
use Rattle.fut_scalar.specs.declared.scalar.ScalarType.{ScalarType}
use Rattle.fut_scalar.specs.declared.scalar.ScalarType.TheVariants as sort
use Rattle.fut_arithmetic.specs.Types.{IsOf, type_of}
use Rattle.fut_arithmetic.specs.Words.{scalar_of_word, word_of}
use Rattle.fut_value.specs.Data.{Array_shape, Datum, Scalar_datum, Scalar_shape, datums, listed, shape_of}
use Rattle.fut_value.specs.Values.{IsWellFormed, cut, datum_of, datum_with, product, shape_in, shape_with, word_count}
use Rattle.fut_value.specs.declared.value.Value.{Value}
use Rattle.std.proofs.Math.Nat.{mod-eq_of_lt}

-- ---- scalars

back : (s : Scalar) → FitsType s → scalar_of_word (type_of s) (word_of s) ≡ s
back (scalar.Int ty bits) h = ap (scalar.Int ty) (mod-eq_of_lt h)
back (scalar.Bool true) h = refl
back (scalar.Bool false) h = refl

pub word_fits : (s : Scalar) → FitsType s → word_of s < word_count (type_of s)
word_fits (scalar.Int ty bits) h = h
word_fits (scalar.Bool true) h = omega arith
word_fits (scalar.Bool false) h = omega arith

pub scalar_data : (ty : ScalarType) (s : Scalar) (word : ℕ) → IsOf ty s → word ≡ word_of s → datum_with ty [] (word ∷ []) ≡ Scalar_datum s
scalar_data ty s word h e = ap (λ w. datum_with ty [] (w ∷ [])) e ∙ ap (λ t. datum_with t [] (word_of s ∷ [])) (sym h.0) ∙ ap Scalar_datum (back s h.1)

pub scalar_formed : (ty : ScalarType) (s : Scalar) (value : Value) → IsOf ty s → value.shape.elem ≡ ty → value.shape.sizes ≡ [] → value.words ≡ word_of s ∷ [] → IsWellFormed value
scalar_formed ty s value h t z w = record {
  all = ap length w ∙ sym (ap product z);
  fit = λ k d l. one k d (omega (arith, l, ap length w));
  below = λ k d l. absurd (omega (arith, l, ap length z));
}
  where
    one : (k d : ℕ) → k < 1 → get_or value.words k d < word_count value.shape.elem
    one k d l = rw w (rw t (rw (sym h.0) (first k l)))
      where
        first : (k : ℕ) → k < 1 → get_or (word_of s ∷ []) k d < word_count (type_of s)
        first zero l = word_fits s h.1
        first (suc k) l = absurd (omega arith)

pub ruleset scalars = (scalar_data, scalar_formed)

-- ---- shapes

type_back : (ty : ScalarType) (w : ℕ) → type_of (scalar_of_word ty w) ≡ ty
type_back (sort.Int ty) w = refl
type_back sort.Bool w = refl

pub rows_of : (f : List ℕ → Datum) (n k : ℕ) (words : List ℕ) → length (listed (datums (map f (cut n k words)))) ≡ n
rows_of f zero k words = refl
rows_of f (suc n) k words = ap suc (rows_of f n k (drop k words))

pub has_shape : (ty : ScalarType) (ns words : List ℕ) → shape_of (datum_with ty ns words) ≡ shape_with ty ns
unfolding shape_of
has_shape ty [] words = ap Scalar_shape (type_back ty _)
has_shape ty (n ∷ ns) words = ap (λ k. Array_shape k (shape_with ty ns)) (rows_of (datum_with ty ns) n (product ns) words)

pub values_have_shapes : (value : Value) → shape_of (datum_of value) ≡ shape_in value.shape
values_have_shapes value = has_shape value.shape.elem value.shape.sizes value.words
