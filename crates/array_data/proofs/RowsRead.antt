-- Rows of arrays.
use Rattle.std.proofs.Common.{◌≡◌, ℕ, zero, suc, ◌+◌, ◌<◌, ◌≤◌, ◌^◌, List, [], ◌∷◌, ◌++◌, map, length, get_or, take, drop, slice_get, Some, Ok, Err, Result, Bool, true, false, refl, sym, ap, ◌∙◌, subst, arith, add-one, append_assoc}
use Rattle.std.specs.Prelude.{◌%◌}
use Rattle.std.proofs.Math.Nat.{mod-eq_of_lt, mod-lt}
use Rattle.std.proofs.Math.Pow.{pow_pos}
use Rattle.fut_scalar.specs.Integers.{width_of}
use Rattle.fut_scalar.specs.declared.scalar.Scalar.{Scalar}
use Rattle.fut_scalar.specs.declared.scalar.Scalar.TheVariants as scalar
use Rattle.fut_scalar.specs.declared.scalar.ScalarType.{ScalarType}
use Rattle.fut_scalar.specs.declared.scalar.ScalarType.TheVariants as sort
use Rattle.fut_arithmetic.specs.Words.{scalar_of_word}
use Rattle.fut_arithmetic.specs.Types.{type_of}
use Rattle.fut_value.specs.Data.{Shape, Scalar_shape, Unmet_shape, Datum, Scalar_datum, Tuple_datum, Array_datum, datums, listed}
use Rattle.fut_meaning.specs.Arrays.{rows_of}
use Rattle.fut_meaning.specs.Outcomes.{Val, Wrong}
use Rattle.array_data.specs.declared.form.Form.{Form}
use Rattle.array_data.specs.declared.form.Form.TheVariants as form
use Rattle.array_data.specs.declared.data.Data.{Data}
use Rattle.array_data.specs.declared.data.Data.TheVariants as hold
use Rattle.array_data.specs.declared.stop.Stop.TheVariants.{Stuck, Memory}
use Rattle.array_data.specs.declared.stop.Stop.{Stop}
use Rattle.array_data.specs.Answers.{Counts, counts, no_array, Row_is, row_is, no_memory_row, Copied, copied, not_copied}
use Rattle.array_data.specs.Held.{shape_held, fitted, scalars, held, held_all, rows_in, row_shape_in, as_held}
use Rattle.array_data.proofs.Holding.{held_scalar, held_words, held_rows, held_tuple, form_unmet, form_scalar}
use Rattle.array_data.proofs.Forms.{listed_datums, length_scalars, held_length}

pub rows_of_words : (t : ScalarType) (ws : List ℕ) → rows_in (held (hold.Words t ws)) ≡ scalars t ws
rows_of_words t ws = ap rows_in (held_words t ws) ∙ listed_datums (scalars t ws)

pub rows_of_rows : (n : ℕ) (h : Form) (ds : List Data) → rows_in (held (hold.Rows n h ds)) ≡ held_all ds
rows_of_rows n h ds = ap rows_in (held_rows n h ds) ∙ listed_datums (held_all ds)

counted_array : (d : Datum) (h : Shape) (ds : List Datum) (n : ℕ) → d ≡ Array_datum h (datums ds) → n ≡ length ds → Counts d (Ok n)
counted_array d h ds n e q = counts (ap rows_of e ∙ sym (ap (λ z. Val (row_shape_in z, rows_in z)) e)) (q ∙ sym (ap length (ap rows_in e ∙ listed_datums ds)))

pub count_words : (d : Data) (t : ScalarType) (ws : List ℕ) (n : ℕ) → d ≡ hold.Words t ws → n ≡ length ws → Counts (held d) (Ok n)
count_words d t ws n e q = counted_array (held d) (Scalar_shape t) (scalars t ws) n (ap held e ∙ held_words t ws) (q ∙ sym (length_scalars t ws))

pub count_rows : (d : Data) (m : ℕ) (h : Form) (ds : List Data) (n : ℕ) → d ≡ hold.Rows m h ds → n ≡ length ds → Counts (held d) (Ok n)
count_rows d m h ds n e q = counted_array (held d) (shape_held h) (held_all ds) n (ap held e ∙ held_rows m h ds) (q ∙ sym (held_length ds))

pub count_scalar : (d : Data) (s : Scalar) → d ≡ hold.Scalar s → Counts (held d) (Err Stuck)
count_scalar d s e = no_array (ap rows_of (ap held e ∙ held_scalar s))

pub count_tuple : (d : Data) (m : ℕ) (ds : List Data) → d ≡ hold.Tuple m ds → Counts (held d) (Err Stuck)
count_tuple d m ds e = no_array (ap rows_of (ap held e ∙ held_tuple m ds))

pub ruleset counting = (count_words, count_rows, count_scalar, count_tuple)

-- ---- one row

get_scalars : (t : ScalarType) (ws : List ℕ) (i d : ℕ) → i < length ws → slice_get (scalars t ws) i ≡ Some (Scalar_datum (scalar_of_word t (get_or ws i d)))
unfolding scalars
get_scalars t [] i d l = absurd (omega arith)
get_scalars t (w ∷ ws) zero d l = refl
get_scalars t (w ∷ ws) (suc i) d l = get_scalars t ws i d (omega arith)

pub get_held : (ds : List Data) (i : ℕ) (d : Data) → i < length ds → slice_get (held_all ds) i ≡ Some (held (get_or ds i d))
unfolding held_all
get_held [] i d l = absurd (omega arith)
get_held (e ∷ ds) zero d l = refl
get_held (e ∷ ds) (suc i) d l = get_held ds i d (omega arith)

word_fitted : (t : ScalarType) (w : ℕ) → fitted (scalar_of_word t w) ≡ scalar_of_word t w
word_fitted (sort.Int t) w = ap (λ z. scalar.Int t z) (mod-eq_of_lt (mod-lt w (pow_pos (width_of t))))
word_fitted sort.Bool w = refl

pub get_word : (t : ScalarType) (ws : List ℕ) (i k : ℕ) (s : Scalar) → i < length ws → s ≡ scalar_of_word t (get_or ws i k) → slice_get (scalars t ws) i ≡ Some (held (hold.Scalar s))
get_word t ws i k s l q = get_scalars t ws i k l ∙ ap (λ z. Some (Scalar_datum z)) (sym (word_fitted t (get_or ws i k))) ∙ ap (λ z. Some (Scalar_datum (fitted z))) (sym q) ∙ ap Some (sym (held_scalar s))

pub row_words : (d : Data) (t : ScalarType) (ws : List ℕ) (i k : ℕ) (s : Scalar) → d ≡ hold.Words t ws → i < length ws → s ≡ scalar_of_word t (get_or ws i k) → Row_is (held d) i (as_held (Ok (hold.Scalar s)))
row_words d t ws i k s e l q = row_is (ap (λ z. slice_get z i) (ap (λ z. rows_in (held z)) e ∙ rows_of_words t ws) ∙ get_word t ws i k s l q)

pub row_rows : (d : Data) (m : ℕ) (h : Form) (ds : List Data) (i : ℕ) (k : Data) (r : Result Data Stop) → d ≡ hold.Rows m h ds → i < length ds → Copied (get_or ds i k) r → Row_is (held d) i (as_held r)
row_rows d m h ds i k _ e l (copied q) = row_is (ap (λ z. slice_get z i) (ap (λ z. rows_in (held z)) e ∙ rows_of_rows m h ds) ∙ get_held ds i k l ∙ ap Some (sym q))
row_rows d m h ds i k _ e l not_copied = no_memory_row

pub ruleset reading = (row_words, row_rows, no_memory_row)

-- ---- what rows look like

pub shape_words : (d : Data) (t : ScalarType) (ws : List ℕ) (h : Form) → d ≡ hold.Words t ws → h ≡ form.Scalar t → shape_held h ≡ row_shape_in (held d)
shape_words d t ws h e q = ap shape_held q ∙ form_scalar t ∙ sym (ap row_shape_in (ap held e ∙ held_words t ws))

pub shape_rows : (d : Data) (m : ℕ) (k : Form) (ds : List Data) (h : Form) → d ≡ hold.Rows m k ds → h ≡ k → shape_held h ≡ row_shape_in (held d)
shape_rows d m k ds h e q = ap shape_held q ∙ sym (ap row_shape_in (ap held e ∙ held_rows m k ds))

pub ruleset shapes = (shape_words, shape_rows)

-- ---- one row more

pub take_row : {A : Type 0} (xs : List A) (i : ℕ) (x : A) → slice_get xs i ≡ Some x → take (suc i) xs ≡ take i xs ++ x ∷ []
take_row [] i x e = cc
take_row (y ∷ xs) zero x e = let q : y ≡ x = cc in ap (λ z. z ∷ []) q
take_row (y ∷ xs) (suc i) x e = ap (λ z. y ∷ z) (take_row xs i x e)

pub drop_row : {A : Type 0} (xs : List A) (i : ℕ) (x : A) → slice_get xs i ≡ Some x → drop i xs ≡ x ∷ drop (suc i) xs
drop_row [] i x e = cc
drop_row (y ∷ xs) zero x e = let q : y ≡ x = cc in ap (λ z. z ∷ xs) q
drop_row (y ∷ xs) (suc i) x e = drop_row xs i x e
