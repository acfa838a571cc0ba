-- Rows of which single ones are found and replaced.
use Rattle.std.proofs.Common.{◌≡◌, ℕ, zero, suc, ◌+◌, ◌-◌, ◌<◌, ◌≤◌, List, [], ◌∷◌, ◌++◌, map, length, get_or, slice_get, Option, Some, None, Ok, Err, Result, refl, sym, ap, ◌∙◌, arith}
use Rattle.std.specs.Prelude.{slice_set}
use Rattle.std.proofs.lemmas.List.{append-nil, map-set, set-set, set-append_left, set-append_right}
use Rattle.std.proofs.lemmas.Option.{slice_get_past}
use Rattle.fut_scalar.specs.declared.scalar.Scalar.{Scalar}
use Rattle.fut_scalar.specs.declared.scalar.ScalarType.{ScalarType}
use Rattle.fut_arithmetic.specs.Types.{type_of}
use Rattle.fut_arithmetic.specs.Words.{scalar_of_word, word_of}
use Rattle.fut_value.specs.Data.{Datum, Scalar_datum}
use Rattle.array_data.specs.declared.built.Built.{Built}
use Rattle.array_data.specs.declared.data.Data.{Data}
use Rattle.array_data.specs.declared.data.Data.TheVariants as hold
use Rattle.array_data.specs.declared.form.Form.{Form}
use Rattle.array_data.specs.declared.stop.Stop.{Stop}
use Rattle.array_data.specs.declared.stop.Stop.TheVariants.{Memory}
use Rattle.array_data.specs.Answers.{Copied, copied, not_copied, All_added, all_added}
use Rattle.array_data.specs.Changes.{Found, found, not_found, as_found, Replaced, replaced, not_replaced, Taken_out, taken_out, not_taken_out}
use Rattle.array_data.specs.Held.{fitted, scalars, held, held_all, as_held, built_rows, rows_in}
use Rattle.array_data.proofs.Building.{word_back}
use Rattle.array_data.proofs.Forms.{length_scalars, held_length}
use Rattle.array_data.proofs.Holding.{held_scalar}
use Rattle.array_data.proofs.RowsRead.{get_held, get_word, rows_of_rows, rows_of_words}

-- ---- the rows of an array

pub apart_words : (b : Built) (d : Data) (t : ScalarType) (ws : List ℕ) → d ≡ hold.Words t ws → b.ty ≡ t → b.words ≡ ws → b.rows ≡ [] → built_rows b ≡ rows_in (held d)
unfolding built_rows held_all
apart_words b d t ws e q p r = rw (r, q, p) (append-nil (scalars t ws) ∙ sym (ap (λ z. rows_in (held z)) e ∙ rows_of_words t ws))

pub apart_rows : (b : Built) (d : Data) (m : ℕ) (h : Form) (ds own : List Data) → d ≡ hold.Rows m h ds → b.words ≡ [] → b.rows ≡ own → held_all own ≡ held_all ds → built_rows b ≡ rows_in (held d)
unfolding built_rows scalars
apart_rows b d m h ds own e q r x = rw (r, q) (x ∙ sym (ap (λ z. rows_in (held z)) e ∙ rows_of_rows m h ds))

pub ruleset taking_apart = (apart_words, apart_rows)

-- ---- the rows of a handle

pub rows_taken : (ds own : List Data) → own ≡ ds → held_all own ≡ held_all ds
rows_taken ds own e = ap held_all e

pub rows_shared : (ds shared s s' own : List Data) → shared ≡ ds → s ≡ [] → own ≡ s' → All_added (held_all shared) (held_all s) (held_all s') (Ok tt) → held_all own ≡ held_all ds
unfolding held_all
rows_shared ds shared s s' own e p q (all_added x) = ap (map held) q ∙ x ∙ ap (λ z. map held z ++ map held shared) p ∙ ap (map held) e

pub ruleset owning = (rows_taken, rows_shared)

-- ---- a row that is found

get_left : {A : Type 0} (xs ys : List A) (i : ℕ) → i < length xs → slice_get (xs ++ ys) i ≡ slice_get xs i
get_left [] ys i l = absurd (omega arith)
get_left (x ∷ xs) ys zero l = refl
get_left (x ∷ xs) ys (suc i) l = get_left xs ys i (omega arith)

get_right : {A : Type 0} (xs ys : List A) (i j : ℕ) → i ≡ length xs + j → slice_get (xs ++ ys) i ≡ slice_get ys j
get_right [] ys i j e = let q : i ≡ j = omega arith in ap (slice_get ys) q
get_right (x ∷ xs) ys zero j e = absurd (omega arith)
get_right (x ∷ xs) ys (suc i) j e = get_right xs ys i j (omega arith)

module _ (b : Built) (i : ℕ) where
  pub found_word : (s : Scalar) (k : ℕ) → i < length b.words → s ≡ scalar_of_word b.ty (get_or b.words i k) → Found (built_rows b) i (as_found (Ok (Some (hold.Scalar s))))
  unfolding built_rows
  found_word s k l e = found (get_left (scalars b.ty b.words) (held_all b.rows) i (omega (arith, length_scalars b.ty b.words)) ∙ get_word b.ty b.words i k s l e)

  module _ (j : ℕ) (l : length b.words ≤ i) (e : j ≡ i - length b.words) where
    behind_words : slice_get (built_rows b) i ≡ slice_get (held_all b.rows) j
    unfolding built_rows
    behind_words = get_right (scalars b.ty b.words) (held_all b.rows) i j (omega (arith, length_scalars b.ty b.words))

    pub found_none : length b.rows ≤ j → Found (built_rows b) i (as_found (Ok None))
    found_none m = found (behind_words ∙ slice_get_past (held_all b.rows) j (omega (arith, held_length b.rows)))

    pub found_row : (d c : Data) → j < length b.rows → Copied (get_or b.rows j d) (Ok c) → Found (built_rows b) i (as_found (Ok (Some c)))
    found_row d c m (copied q) = found (behind_words ∙ get_held b.rows j d m ∙ ap Some (sym q))

    pub found_no_copy : (d : Data) (s : Stop) → Copied d (Err s) → Found (built_rows b) i (as_found (Err s))
    found_no_copy d _ not_copied = not_found

pub ruleset finding = (found_word, found_none, found_row, found_no_copy)

-- ---- a row that is replaced

pub row_replaced : (b c : Built) (i j : ℕ) (d : Data) → length b.words ≤ i → j ≡ i - length b.words → c.ty ≡ b.ty → c.words ≡ b.words → c.rows ≡ slice_set b.rows j d → Replaced i (held d) (built_rows b) (built_rows c) (Ok tt)
unfolding built_rows held_all
row_replaced b c i j d l e q p r = replaced (rw (q, p, r) (ap (λ z. scalars b.ty b.words ++ z) (map-set held b.rows j d) ∙ ap (λ j. scalars b.ty b.words ++ slice_set (map held b.rows) j (held d)) e
    ∙ sym (set-append_right (scalars b.ty b.words) (map held b.rows) (length b.words) i (held d) (length_scalars b.ty b.words) l)))

pub ruleset replacing = (row_replaced, not_replaced)

-- ---- a row that is taken out

found_there : (ds : List Datum) (i : ℕ) (d : Data) → Found ds i (as_found (Ok (Some d))) → slice_get ds i ≡ Some (held d)
found_there ds i d (found q) = q

is_replaced : (i : ℕ) (d : Datum) (ds ds' : List Datum) → Replaced i d ds ds' (Ok tt) → ds' ≡ slice_set ds i d
is_replaced i d ds ds' (replaced q) = q

pub word_out : (b : Built) (i k : ℕ) (s : Scalar) → i < length b.words → s ≡ scalar_of_word b.ty (get_or b.words i k) → Taken_out i (built_rows b) (built_rows b) (as_held (Ok (hold.Scalar s)))
word_out b i k s l e = taken_out (found_there (built_rows b) i (hold.Scalar s) (found_word b i s k l e)) (λ d. refl)

pub row_out : (b c : Built) (i j : ℕ) (d e p : Data) → length b.words ≤ i → j ≡ i - length b.words → j < length b.rows → e ≡ get_or b.rows j d → c.ty ≡ b.ty → c.words ≡ b.words → c.rows ≡ slice_set b.rows j p → Taken_out i (built_rows b) (built_rows c) (as_held (Ok e))
row_out b c i j d e p l q m r t w x = taken_out (behind_words b i j l q ∙ get_held b.rows j d m ∙ ap (λ z. Some (held z)) (sym r))
    (λ v. ap (λ z. slice_set z i v) (is_replaced i (held p) (built_rows b) (built_rows c) (row_replaced b c i j p l q t w x)) ∙ set-set (built_rows b) i (held p) v)

pub ruleset taking_out = (word_out, row_out, not_taken_out)

pub word_replaced : (b c : Built) (i w : ℕ) (s : Scalar) (d : Data) → d ≡ hold.Scalar s → type_of s ≡ b.ty → w ≡ word_of s → i < length b.words → c.ty ≡ b.ty → c.words ≡ slice_set b.words i w → c.rows ≡ b.rows → Replaced i (held d) (built_rows b) (built_rows c) (Ok tt)
unfolding built_rows scalars
word_replaced b c i w s d e t f l q p r = replaced (rw (q, p, r)
    (ap (λ z. z ++ held_all b.rows) (map-set (λ w. Scalar_datum (scalar_of_word b.ty w)) b.words i w)
    ∙ sym (set-append_left (scalars b.ty b.words) (held_all b.rows) i (Scalar_datum (scalar_of_word b.ty w)) (omega (arith, length_scalars b.ty b.words)))
    ∙ ap (λ z. slice_set (scalars b.ty b.words ++ held_all b.rows) i z) (sym same)))
  where
    same : held d ≡ Scalar_datum (scalar_of_word b.ty w)
    same = ap held e ∙ held_scalar s ∙ ap Scalar_datum (sym (word_back s)) ∙ ap (λ t. Scalar_datum (scalar_of_word t (word_of s))) t ∙ ap (λ z. Scalar_datum (scalar_of_word b.ty z)) (sym f)

pub ruleset replacing_words = (word_replaced, not_replaced)
