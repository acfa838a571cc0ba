-- The weight of forms.
use Rattle.std.proofs.Common.{◌≡◌, ℕ, zero, suc, ◌+◌, ◌*◌, ◌<◌, ◌≤◌, ◌^◌, List, [], ◌∷◌, ◌++◌, map, length, get_or, take, drop, Bool, true, false, refl, sym, ap, ◌∙◌, subst, arith, add-one}
use Rattle.std.specs.Prelude.{◌&&◌, nat_le, nat_lt, max, min}
use Rattle.std.proofs.Math.Nat.{mul-le-mul_left, mul_comm, le_refl}
use Rattle.std.proofs.Math.Seq.{drop-cons}
use Rattle.std.proofs.lemmas.Bool.{le-leb, lt-leb, leb-true, leb-false}
use Rattle.fut_scalar.specs.declared.scalar.ScalarType.{ScalarType}
use Rattle.fut_meaning.specs.Arrays.{most_words}
use Rattle.fut_value.specs.Data.{Shape, Scalar_shape, Tuple_shape, Array_shape, Record_shape, Unmet_shape, Shapes, no_shape, shape_and, heaviest, heaviest_of, words, all_words, weight}
use Rattle.array_data.specs.declared.form.Form.{Form}
use Rattle.array_data.specs.declared.form.Form.TheVariants as form
use Rattle.array_data.specs.Held.{shapes, shape_held, shapes_held}
use Rattle.array_data.proofs.Holding.{form_unmet, form_scalar, form_tuple, form_array}
use Rattle.array_data.proofs.Forms.{shapes_here, drop_past}

-- whether the greater of two is within a limit
le_max : (a b m : ℕ) → nat_le (max a b) m ≡ nat_le a m && nat_le b m
le_max a b m = by_first (nat_le a m) refl
  where
    by_second : (y : Bool) → nat_le b m ≡ y → a ≤ m → nat_le (max a b) m ≡ y
    by_second true q l = let k : b ≤ m = leb-true b m q in le-leb (max a b) m (omega arith)
    by_second false q l = let k : m < b = leb-false b m q in lt-leb (max a b) m (omega arith)

    by_first : (x : Bool) → nat_le a m ≡ x → nat_le (max a b) m ≡ nat_le a m && nat_le b m
    by_first true q = by_second (nat_le b m) refl (leb-true a m q) ∙ ap (λ z. z && nat_le b m) (sym q)
    by_first false q = let k : m < a = leb-false a m q in lt-leb (max a b) m (omega arith) ∙ ap (λ z. z && nat_le b m) (sym q)

pub flat_unmet : (n : ℕ) → nat_le (heaviest n (shape_held form.Unmet)) most_words ≡ true
unfolding heaviest
flat_unmet n = ap (λ z. nat_le (heaviest n z) most_words) form_unmet

pub flat_scalar : (n : ℕ) (t : ScalarType) → nat_le (heaviest n (shape_held (form.Scalar t))) most_words ≡ true
unfolding heaviest
flat_scalar n t = ap (λ z. nat_le (heaviest n z) most_words) (form_scalar t)

pub flat_tuple : (n : ℕ) (hs : List Form) → nat_le (heaviest n (shape_held (form.Tuple hs))) most_words ≡ nat_le (heaviest_of n (shapes_held hs)) most_words
unfolding heaviest shapes_held
flat_tuple n hs = ap (λ z. nat_le (heaviest n z) most_words) (form_tuple hs)

flat_array : (n k : ℕ) (h : Form) → nat_le (heaviest n (shape_held (form.Array k h))) most_words ≡ nat_le (n * k) most_words && nat_le (heaviest (n * k) (shape_held h)) most_words
unfolding heaviest
flat_array n k h = ap (λ z. nat_le (heaviest n z) most_words) (form_array k h) ∙ le_max (n * k) (heaviest (n * k) (shape_held h)) most_words

pub flat_within : (n k m : ℕ) (h : Form) → m ≡ n * k → m ≤ 33554432 → nat_le (heaviest n (shape_held (form.Array k h))) most_words ≡ nat_le (heaviest m (shape_held h)) most_words
flat_within n k m h e l =
    flat_array n k h ∙ ap (λ z. nat_le z most_words && nat_le (heaviest z (shape_held h)) most_words) (sym e) ∙ ap (λ z. z && nat_le (heaviest m (shape_held h)) most_words) (le-leb m most_words l)

pub flat_beyond : (n k : ℕ) (h : Form) → 33554432 < n * k → nat_le (heaviest n (shape_held (form.Array k h))) most_words ≡ false
flat_beyond n k h l = flat_array n k h ∙ ap (λ z. z && nat_le (heaviest (n * k) (shape_held h)) most_words) (lt-leb (n * k) most_words l)

-- the forms from a place on
unfoldable pub Flat_from : ℕ → List Form → ℕ → Type 0
Flat_from n hs i = nat_le (heaviest_of n (shapes_held hs)) most_words ≡ nat_le (heaviest_of n (shapes_held (drop i hs))) most_words

module _ (n : ℕ) (hs : List Form) where
  pub flat_start : Flat_from n hs 0
  unfolding Flat_from
  flat_start = refl

  module _ (i : ℕ) (d : Form) (l : i < length hs) (m : Flat_from n hs i) where
    flat_here : nat_le (heaviest_of n (shapes_held hs)) most_words ≡ nat_le (heaviest n (shape_held (get_or hs i d))) most_words && nat_le (heaviest_of n (shapes_held (drop (suc i) hs))) most_words
    unfolding Flat_from heaviest_of
    flat_here = m ∙ ap (λ z. nat_le (heaviest_of n z) most_words) (shapes_here hs i d l) ∙ le_max (heaviest n (shape_held (get_or hs i d))) (heaviest_of n (shapes_held (drop (suc i) hs))) most_words

    pub flat_more : true ≡ nat_le (heaviest n (shape_held (get_or hs i d))) most_words → Flat_from n hs (i + 1)
    unfolding Flat_from
    flat_more e = flat_here ∙ ap (λ z. z && nat_le (heaviest_of n (shapes_held (drop (suc i) hs))) most_words) (sym e) ∙ ap (λ z. nat_le (heaviest_of n (shapes_held (drop z hs))) most_words) (sym (add-one i))

    pub flat_stop : false ≡ nat_le (heaviest n (shape_held (get_or hs i d))) most_words → false ≡ nat_le (heaviest_of n (shapes_held hs)) most_words
    flat_stop e = sym (flat_here ∙ ap (λ z. z && nat_le (heaviest_of n (shapes_held (drop (suc i) hs))) most_words) (sym e))

  pub flat_end : (i : ℕ) → length hs ≤ i → Flat_from n hs i → true ≡ nat_le (heaviest_of n (shapes_held hs)) most_words
  unfolding Flat_from shapes_held heaviest_of
  flat_end i l m = sym (m ∙ ap (λ z. nat_le (heaviest_of n (shapes (map shape_held z))) most_words) (drop_past hs i l))

pub ruleset light = (flat_unmet, flat_scalar, flat_tuple, flat_within, flat_beyond, flat_start, flat_more, flat_stop, flat_end)

-- ---- words

pub words_unmet : min (words (shape_held form.Unmet)) 33554433 ≡ 0
unfolding words
words_unmet = ap (λ z. min (words z) 33554433) form_unmet

pub words_scalar : (t : ScalarType) → min (words (shape_held (form.Scalar t))) 33554433 ≡ 1
unfolding words
words_scalar t = ap (λ z. min (words z) 33554433) (form_scalar t)

pub words_tuple : (hs : List Form) → min (words (shape_held (form.Tuple hs))) 33554433 ≡ min (all_words (shapes_held hs)) 33554433
unfolding words shapes_held
words_tuple hs = ap (λ z. min (words z) 33554433) (form_tuple hs)

array_words : (n : ℕ) (h : Form) → words (shape_held (form.Array n h)) ≡ n * words (shape_held h)
unfolding words
array_words n h = ap words (form_array n h)

-- a product that is cut off may be cut off before
cut_product : (n w r c : ℕ) → r ≡ min w c → min (n * r) c ≡ min (n * w) c
cut_product zero w r c e = omega arith
cut_product (suc n) w r c e = by_test (nat_le w c) refl
  where
    by_test : (b : Bool) → nat_le w c ≡ b → min (suc n * r) c ≡ min (suc n * w) c
    by_test true q = let l : w ≤ c = leb-true w c q in let k : r ≡ w = omega arith in ap (λ z. min (suc n * z) c) k
    by_test false q = let l : c < w = leb-false w c q in
        let k : r ≡ c = omega arith in
        let x : suc n * r ≡ r + n * r = omega arith in
        let y : suc n * w ≡ w + n * w = omega arith in
        omega arith

pub words_array : (n : ℕ) (h : Form) (r p q : ℕ) → r ≡ min (words (shape_held h)) 33554433 → p ≡ n * r → q ≡ min p 33554433 → q ≡ min (words (shape_held (form.Array n h))) 33554433
words_array n h r p q e f g = g ∙ ap (λ z. min z 33554433) f ∙ cut_product n (words (shape_held h)) r 33554433 e ∙ ap (λ z. min z 33554433) (sym (array_words n h))

pub words_many : (n : ℕ) (h : Form) (r : ℕ) → r ≡ min (words (shape_held h)) 33554433 → 2 ^ 64 ≤ n * r → 33554433 ≡ min (words (shape_held (form.Array n h))) 33554433
words_many n h r e l = let k : min (n * r) 33554433 ≡ 33554433 = omega arith in sym k ∙ cut_product n (words (shape_held h)) r 33554433 e ∙ ap (λ z. min z 33554433) (sym (array_words n h))

-- the forms before a place
unfoldable pub Words_up_to : List Form → ℕ → ℕ → Type 0
Words_up_to hs i sum = (min (sum + all_words (shapes_held (drop i hs))) 33554433 ≡ min (all_words (shapes_held hs)) 33554433) × (sum ≤ 33554433)

pub words_start : (hs : List Form) → Words_up_to hs 0 0
unfolding Words_up_to
words_start hs = (omega arith, omega arith)

module _ (hs : List Form) (i : ℕ) (sum : ℕ) where
  pub words_bound : Words_up_to hs i sum → sum ≤ 33554433
  unfolding Words_up_to
  words_bound h = h.1

  pub words_more : (d : Form) (w : ℕ) → i < length hs → Words_up_to hs i sum → w ≡ min (words (shape_held (get_or hs i d))) 33554433 → Words_up_to hs (i + 1) (min (sum + w) 33554433)
  unfolding Words_up_to all_words
  words_more d w l h e =
      let q : all_words (shapes_held (drop i hs)) ≡ words (shape_held (get_or hs i d)) + all_words (shapes_held (drop (suc i) hs)) = ap all_words (shapes_here hs i d l) in
      (ap (λ z. min (min (sum + w) 33554433 + all_words (shapes_held (drop z hs))) 33554433) (add-one i) ∙ omega (arith, q, h.0, e), omega arith)

  pub words_end : length hs ≤ i → Words_up_to hs i sum → sum ≡ min (all_words (shapes_held hs)) 33554433
  unfolding Words_up_to shapes_held all_words
  words_end l h =
      let q : all_words (shapes (map shape_held (drop i hs))) ≡ 0 = ap (λ z. all_words (shapes (map shape_held z))) (drop_past hs i l) in
      omega (arith, h.0, h.1, q)

pub ruleset counted = (words_unmet, words_scalar, words_tuple, words_array, words_many, words_start, words_bound, words_more, words_end)

-- ---- weight

pub heavy_flat : (h : Form) → false ≡ nat_le (heaviest 1 (shape_held h)) most_words → false ≡ nat_le (weight (shape_held h)) most_words
unfolding weight
heavy_flat h e = sym (le_max (heaviest 1 (shape_held h)) (words (shape_held h)) most_words ∙ ap (λ z. z && nat_le (words (shape_held h)) most_words) (sym e))

pub heavy_words : (h : Form) (w : ℕ) → true ≡ nat_le (heaviest 1 (shape_held h)) most_words → w ≡ min (words (shape_held h)) 33554433 → 33554432 < w → false ≡ nat_le (weight (shape_held h)) most_words
unfolding weight
heavy_words h w e q l = sym (le_max (heaviest 1 (shape_held h)) (words (shape_held h)) most_words ∙ ap (λ z. z && nat_le (words (shape_held h)) most_words) (sym e) ∙ lt-leb (words (shape_held h)) most_words (omega arith))

pub light_words : (h : Form) (w : ℕ) → true ≡ nat_le (heaviest 1 (shape_held h)) most_words → w ≡ min (words (shape_held h)) 33554433 → w ≤ 33554432 → true ≡ nat_le (weight (shape_held h)) most_words
unfolding weight
light_words h w e q l = sym (le_max (heaviest 1 (shape_held h)) (words (shape_held h)) most_words ∙ ap (λ z. z && nat_le (words (shape_held h)) most_words) (sym e) ∙ le-leb (words (shape_held h)) most_words (omega arith))

pub ruleset weighed = (heavy_flat, heavy_words, light_words)

-- ---- a number of words

pub few_not : (n : ℕ) → 33554432 < n → false ≡ nat_le n most_words
few_not n l = sym (lt-leb n most_words l)

pub few_yes : (n : ℕ) → n ≤ 33554432 → true ≡ nat_le n most_words
few_yes n l = sym (le-leb n most_words l)

pub ruleset few = (few_not, few_yes)
