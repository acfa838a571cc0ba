-- The text of a value's data is told by its sizes and words.
use Rattle.std.proofs.Common.{◌≡◌, ◌+◌, ◌-◌, ◌*◌, ◌/◌, ◌<◌, ◌≤◌, ℕ, zero, suc, List, [], ◌∷◌, ◌++◌, length, length-drop, map, take, drop, arith, refl, sym, ap, ◌∙◌, subst, append_assoc, append-nil}
use Rattle.std.proofs.lemmas.List.{length-take-le}
use Rattle.std.proofs.lemmas.Nat.{div-mul-add}
use Rattle.std.specs.Prelude.{Bool, true, false, cond, ◌==◌, ◌||◌, codes, decimal, flat_map}
use Rattle.std.proofs.lemmas.Bool.{eqb-false}
use Rattle.std.proofs.Math.Nat.{mul_comm}
use Rattle.fut_scalar.specs.declared.scalar.ScalarType.{ScalarType}
use Rattle.fut_value.specs.Data.{Array_shape, Datum, datums, listed}
use Rattle.fut_value.specs.Values.{cut, datum_with, product, shape_with}
use Rattle.fut_value.proofs.Flats.{rows_of}
use Rattle.value_text.specs.FlatText.{array_text, bracketed, joined, other_row}
use Rattle.value_text.specs.Printing.{data_text, empty_text, lacks, others_text, rows_text, sizes_text, type_text}
use Rattle.value_text.specs.Written.{has_zero}

-- ---- empty arrays

module _ (ty : ScalarType) where
  lacks_is : (ns : List ℕ) → lacks (shape_with ty ns) ≡ has_zero ns
  lacks_is [] = refl
  lacks_is (n ∷ ns) = ap (λ t. n == 0 || t) (lacks_is ns)

  pub sizes_are : (ns : List ℕ) → sizes_text (shape_with ty ns) ≡ flat_map bracketed ns ++ type_text ty
  sizes_are [] = refl
  sizes_are (n ∷ ns) =
      ap (λ t. codes "[" ++ (decimal n ++ (codes "]" ++ t))) (sizes_are ns)
      ∙ sym (append_assoc (bracketed n) (flat_map bracketed ns) (type_text ty) ∙ append_assoc (codes "[") (decimal n ++ codes "]") (flat_map bracketed ns ++ type_text ty) ∙ ap (λ t. codes "[" ++ t) (append_assoc (decimal n) (codes "]") (flat_map bracketed ns ++ type_text ty)))

  -- an array with a size 0, and one without
  module _ (n : ℕ) (ns words : List ℕ) where
    length_is : length (listed (datums (map (datum_with ty ns) (cut n (product ns) words)))) ≡ n
    length_is = rows_of (datum_with ty ns) n (product ns) words

    pub array_is : (t : Bool) → has_zero (n ∷ ns) ≡ t
        → data_text (datum_with ty (n ∷ ns) words) ≡ cond t (empty_text (shape_with ty (n ∷ ns))) (codes "[" ++ (rows_text (datums (map (datum_with ty ns) (cut n (product ns) words))) ++ codes "]"))
    unfolding data_text
    array_is t h =
        ap (λ k. cond (lacks (Array_shape k (shape_with ty ns))) (empty_text (Array_shape k (shape_with ty ns))) (codes "[" ++ (rows_text (datums (map (datum_with ty ns) (cut n (product ns) words))) ++ codes "]"))) length_is
        ∙ ap (λ b. cond b (empty_text (shape_with ty (n ∷ ns))) (codes "[" ++ (rows_text (datums (map (datum_with ty ns) (cut n (product ns) words))) ++ codes "]"))) (lacks_is (n ∷ ns) ∙ h)

-- ---- rows

-- the words of the first of rows, and of the others
pub first_within : (n k : ℕ) (words : List ℕ) → length words ≡ suc n * k → k ≤ length words
first_within n k words l = omega (arith, l)

pub first_long : (n k : ℕ) (words : List ℕ) → length words ≡ suc n * k → length (take k words) ≡ k
first_long n k words l = length-take-le k words (first_within n k words l)

pub rest_long : (n k : ℕ) (words : List ℕ) → length words ≡ suc n * k → length (drop k words) ≡ n * k
rest_long n k words l = length-drop k words ∙ omega (arith, l)

pub right_false : (s t : Bool) → (s || t) ≡ false → t ≡ false
right_false true t h = absurd cc
right_false false t h = h

module _ (f : List ℕ → Datum) (g : List ℕ → List ℕ) (k : ℕ) (same : (words : List ℕ) → length words ≡ k → data_text (f words) ≡ g words) where
  others_are : (n : ℕ) (words : List ℕ) → length words ≡ n * k → others_text (datums (map f (cut n k words))) ≡ flat_map (other_row g) (cut n k words)
  unfolding data_text
  others_are zero words l = refl
  others_are (suc n) words l =
      let s = same (take k words) (first_long n k words l) in
      ap (λ t. codes ", " ++ (t ++ others_text (datums (map f (cut n k (drop k words)))))) s
      ∙ ap (λ t. codes ", " ++ (g (take k words) ++ t)) (others_are n (drop k words) (rest_long n k words l))
      ∙ sym (append_assoc (codes ", ") (g (take k words)) (flat_map (other_row g) (cut n k (drop k words))))

  rows_are : (n : ℕ) (words : List ℕ) → length words ≡ n * k → rows_text (datums (map f (cut n k words))) ≡ joined g (cut n k words)
  unfolding data_text
  rows_are zero words l = refl
  rows_are (suc n) words l =
      ap (λ t. t ++ others_text (datums (map f (cut n k (drop k words))))) (same (take k words) (first_long n k words l))
      ∙ ap (λ t. g (take k words) ++ t) (others_are n (drop k words) (rest_long n k words l))

pub data_is : (ty : ScalarType) (ns words : List ℕ) → has_zero ns ≡ false → length words ≡ product ns → data_text (datum_with ty ns words) ≡ array_text ty ns words
unfolding data_text
data_is ty [] [] z l = absurd (omega (arith, l))
data_is ty [] (w ∷ words) z l = refl
data_is ty (n ∷ ns) words z l =
    array_is ty n ns words false z
    ∙ ap (λ t. codes "[" ++ (t ++ codes "]")) (rows_are (datum_with ty ns) (array_text ty ns) (product ns) (λ ws m. data_is ty ns ws (right_false (n == 0) (has_zero ns) z) m) n words l)

pub empty_is : (ty : ScalarType) (ns words : List ℕ) → has_zero ns ≡ true → data_text (datum_with ty ns words) ≡ empty_text (shape_with ty ns)
empty_is ty [] words z = absurd cc
empty_is ty (n ∷ ns) words z = array_is ty n ns words true z

pub value_is : (ty : ScalarType) (ns words : List ℕ) → has_zero ns ≡ false → length words ≡ product ns → array_text ty ns words ≡ data_text (datum_with ty ns words)
value_is ty ns words z l = sym (data_is ty ns words z l)

pub row_words : (n k all : ℕ) → 0 < n → all ≡ n * k → all / n ≡ k
row_words n k all h e =
    let turned : all ≡ k * n + 0 = omega (arith, e, mul_comm n k) in
    ap (λ m. m / n) turned ∙ div-mul-add k n 0 h

-- ---- the loop

-- what is printed, and the rows that are left, are the whole
module _ (g : List ℕ → List ℕ) (k : ℕ) (whole text : List ℕ) where
  pub next_row : (left n : ℕ) (words row more text2 text3 : List ℕ) → left ≡ suc n → text ++ flat_map (other_row g) (cut left k words) ≡ whole → row ≡ take k words → more ≡ drop k words → text2 ≡ text ++ codes ", " → text3 ≡ text2 ++ g row
      → text3 ++ flat_map (other_row g) (cut n k more) ≡ whole
  next_row left n words row more text2 text3 e same is_row is_more e2 e3 =
      let opened : text ++ ((codes ", " ++ g (take k words)) ++ flat_map (other_row g) (cut n k (drop k words))) ≡ whole = subst (λ m. text ++ flat_map (other_row g) (cut m k words) ≡ whole) e same in
      ap (λ t. t ++ flat_map (other_row g) (cut n k more)) (e3 ∙ ap (λ t. t ++ g row) e2 ∙ append_assoc text (codes ", ") (g row) ∙ ap (λ r. text ++ (codes ", " ++ g r)) is_row)
      ∙ ap (λ m. (text ++ (codes ", " ++ g (take k words))) ++ flat_map (other_row g) (cut n k m)) is_more
      ∙ append_assoc text (codes ", " ++ g (take k words)) (flat_map (other_row g) (cut n k (drop k words)))
      ∙ opened

  pub no_row : (left : ℕ) (words : List ℕ) → left ≡ 0 → text ++ flat_map (other_row g) (cut left k words) ≡ whole → text ≡ whole
  no_row left words e same = sym (append-nil text) ∙ subst (λ m. text ++ flat_map (other_row g) (cut m k words) ≡ whole) e same

-- ---- rows, at least one

pub first_fits : (count p k : ℕ) (words : List ℕ) → 0 < count → k ≡ p → length words ≡ count * p → k ≤ length words
first_fits zero p k words h e l = absurd (omega arith)
first_fits (suc n) p k words h e l = let f = first_within n p words l in omega (arith, e, f)

pub first_is : (count p k : ℕ) (words row : List ℕ) → 0 < count → k ≡ p → length words ≡ count * p → row ≡ take k words → length row ≡ p
first_is zero p k words row h e l r = absurd (omega arith)
first_is (suc n) p k words row h e l r = ap length r ∙ ap (λ j. length (take j words)) e ∙ first_long n p words l

pub rest_is : (count p k : ℕ) (words more : List ℕ) → 0 < count → k ≡ p → length words ≡ count * p → more ≡ drop k words → length more ≡ (count - 1) * k
rest_is zero p k words more h e l m = absurd (omega arith)
rest_is (suc n) p k words more h e l m =
    ap length m ∙ ap (λ j. length (drop j words)) e ∙ rest_long n p words l ∙ ap (λ j. n * j) (sym e) ∙ ap (λ j. j * k) (omega arith)

pub rows_whole : (g : List ℕ → List ℕ) (count p k : ℕ) (words row more old t1 new : List ℕ) → 0 < count → k ≡ p → row ≡ take k words → more ≡ drop k words → t1 ≡ old ++ g row → new ≡ t1 ++ flat_map (other_row g) (cut (count - 1) k more)
    → new ≡ old ++ joined g (cut count p words)
rows_whole g zero p k words row more old t1 new h e r m e1 e2 = absurd (omega arith)
rows_whole g (suc n) p k words row more old t1 new h e r m e1 e2 =
    e2 ∙ ap (λ t. t ++ flat_map (other_row g) (cut (suc n - 1) k more)) (e1 ∙ ap (λ b. old ++ g b) (r ∙ ap (λ j. take j words) e))
    ∙ ap (λ j. (old ++ g (take p words)) ++ flat_map (other_row g) (cut j k more)) (omega arith)
    ∙ ap (λ b. (old ++ g (take p words)) ++ flat_map (other_row g) (cut n k b)) (m ∙ ap (λ j. drop j words) e)
    ∙ ap (λ j. (old ++ g (take p words)) ++ flat_map (other_row g) (cut n j (drop p words))) e
    ∙ append_assoc old (g (take p words)) (flat_map (other_row g) (cut n p (drop p words)))

pub ruleset rows_go = (first_fits, first_is, rest_is, rows_whole)

-- ---- rows behind another

pub other_fits : (count turn k : ℕ) (words : List ℕ) → turn < count → length words ≡ (count - turn) * k → k ≤ length words
other_fits count turn k words h l = first_fits (count - turn) k k words (omega arith) refl l

pub other_is : (count turn p k : ℕ) (words row : List ℕ) → turn < count → k ≡ p → length words ≡ (count - turn) * k → row ≡ take k words → length row ≡ p
other_is count turn p k words row h e l r = first_is (count - turn) k k words row (omega arith) refl l r ∙ e

pub other_rest : (count turn k : ℕ) (words more : List ℕ) → turn < count → length words ≡ (count - turn) * k → more ≡ drop k words → length more ≡ (count - (turn + 1)) * k
other_rest count turn k words more h l m = rest_is (count - turn) k k words more (omega arith) refl l m ∙ ap (λ j. j * k) (omega arith)

pub ruleset others_go = (other_fits, other_is, other_rest, next_row, no_row)

-- ---- an array

nonzero : (n : ℕ) (ns sizes : List ℕ) → sizes ≡ n ∷ ns → has_zero sizes ≡ false → (0 < n) × (has_zero ns ≡ false)
nonzero n ns sizes e h = by_test (n == 0) refl (sym (ap has_zero e) ∙ h)
  where
    by_test : (t : Bool) → (n == 0) ≡ t → (t || has_zero ns) ≡ false → (0 < n) × (has_zero ns ≡ false)
    by_test true z k = absurd cc
    by_test false z k = let apart = eqb-false n 0 z in (omega (arith, apart), k)

pub some_rows : (n : ℕ) (ns sizes : List ℕ) → sizes ≡ n ∷ ns → has_zero sizes ≡ false → 0 < n
some_rows n ns sizes e h = (nonzero n ns sizes e h).0

pub some_left : (n : ℕ) (ns sizes : List ℕ) → sizes ≡ n ∷ ns → has_zero sizes ≡ false → has_zero ns ≡ false
some_left n ns sizes e h = (nonzero n ns sizes e h).1

pub array_whole : (ty : ScalarType) (n : ℕ) (ns sizes words old t1 t2 new : List ℕ) → sizes ≡ n ∷ ns → t1 ≡ old ++ codes "[" → t2 ≡ t1 ++ joined (array_text ty ns) (cut n (product ns) words) → new ≡ t2 ++ codes "]" → new ≡ old ++ array_text ty sizes words
array_whole ty n ns sizes words old t1 t2 new e e1 e2 e3 =
    let rows = joined (array_text ty ns) (cut n (product ns) words) in
    e3 ∙ ap (λ t. t ++ codes "]") (e2 ∙ ap (λ t. t ++ rows) e1) ∙ append_assoc (old ++ codes "[") rows (codes "]") ∙ append_assoc old (codes "[") (rows ++ codes "]") ∙ ap (λ s. old ++ array_text ty s words) (sym e)

pub ruleset data_goes = (some_rows, some_left, array_whole)

pub empty_whole : (ty : ScalarType) (ns old t1 t2 t3 new : List ℕ) → t1 ≡ old ++ codes "empty(" → t2 ≡ t1 ++ flat_map bracketed ns → t3 ≡ t2 ++ type_text ty → new ≡ t3 ++ codes ")" → new ≡ old ++ empty_text (shape_with ty ns)
empty_whole ty ns old t1 t2 t3 new e1 e2 e3 e4 =
    e4 ∙ ap (λ t. t ++ codes ")") (e3 ∙ ap (λ t. t ++ type_text ty) (e2 ∙ ap (λ t. t ++ flat_map bracketed ns) e1))
    ∙ ap (λ t. t ++ codes ")") (append_assoc (old ++ codes "empty(") (flat_map bracketed ns) (type_text ty))
    ∙ append_assoc (old ++ codes "empty(") (flat_map bracketed ns ++ type_text ty) (codes ")")
    ∙ append_assoc old (codes "empty(") ((flat_map bracketed ns ++ type_text ty) ++ codes ")")
    ∙ ap (λ t. old ++ (codes "empty(" ++ (t ++ codes ")"))) (sym (sizes_are ty ns))

pub ruleset empties = (empty_whole)

pub ruleset texts = (value_is, empty_is)
