-- Rows and parts of forms.
use Rattle.std.proofs.Common.{◌≡◌, ℕ, zero, suc, ◌+◌, ◌<◌, ◌≤◌, List, [], ◌∷◌, ◌++◌, map, length, get_or, take, Ok, Err, Result, refl, sym, ap, ◌∙◌, subst, arith, add-one}
use Rattle.std.proofs.lemmas.List.{take_all}
use Rattle.fut_scalar.specs.declared.scalar.ScalarType.{ScalarType}
use Rattle.fut_ast.specs.Sorts.{Text}
use Rattle.fut_value.specs.Data.{Shape, Scalar_shape, Tuple_shape, Record_shape, Array_shape, Unmet_shape, shape_and}
use Rattle.fut_meaning.specs.Outcomes.{Val}
use Rattle.fut_meaning.specs.Places.{row_of, part_of, shape_at}
use Rattle.fut_meaning.specs.Telling.{parts_of, arrays_of}
use Rattle.array_data.specs.declared.form.Form.{Form}
use Rattle.array_data.specs.declared.form.Form.TheVariants as form
use Rattle.array_data.specs.declared.stop.Stop.{Stop}
use Rattle.array_data.specs.declared.stop.Stop.TheVariants.{Memory}
use Rattle.array_data.specs.Answers.{Tells, told, no_memory_told}
use Rattle.array_data.specs.Held.{shapes, named_shapes, shape_held}
use Rattle.array_data.proofs.Forms.{map_push}
use Rattle.array_data.proofs.Holding.{form_unmet, form_scalar, form_tuple, form_record, form_array}
use Rattle.form_parts.specs.Met.{as_shape}

-- an answer is told by what it is, or memory is missing
pub no_memory_for_part : (h : Shape) → Tells (Val h) (as_shape (Err Memory))
no_memory_for_part h = no_memory_told

module _ (k : Shape → Shape) (f : Form) (h : Shape) (q : shape_held f ≡ h) where
  pub there : (r : Result Shape Stop) → Tells (Val (k h)) r → Tells (Val (k (shape_held f))) r
  there r t = subst (λ z. Tells (Val (k z)) r) (sym q) t

  -- no such part
  pub no_part : k h ≡ Unmet_shape → Tells (Val (k (shape_held f))) (as_shape (Ok form.Unmet))
  no_part n = there (Ok (shape_held form.Unmet)) (told (ap Val (n ∙ sym form_unmet)))

module _ (f : Form) where
  pub rows_there : (n : ℕ) (k g : Form) → f ≡ form.Array n k → g ≡ k → Tells (Val (row_of (shape_held f))) (as_shape (Ok g))
  rows_there n k g q p = there row_of f (Array_shape n (shape_held k)) (ap shape_held q ∙ form_array n k) (Ok (shape_held g)) (told (ap (λ z. Val (shape_held z)) (sym p)))

  pub rows_unmet : f ≡ form.Unmet → Tells (Val (row_of (shape_held f))) (as_shape (Ok form.Unmet))
  rows_unmet q = no_part row_of f Unmet_shape (ap shape_held q ∙ form_unmet) refl

  pub rows_scalar : (t : ScalarType) → f ≡ form.Scalar t → Tells (Val (row_of (shape_held f))) (as_shape (Ok form.Unmet))
  rows_scalar t q = no_part row_of f (Scalar_shape t) (ap shape_held q ∙ form_scalar t) refl

  pub rows_tuple : (hs : List Form) → f ≡ form.Tuple hs → Tells (Val (row_of (shape_held f))) (as_shape (Ok form.Unmet))
  rows_tuple hs q = no_part row_of f (Tuple_shape (shapes (map shape_held hs))) (ap shape_held q ∙ form_tuple hs) refl

  pub rows_record : (fs : List Text) (hs : List Form) → f ≡ form.Record fs hs → Tells (Val (row_of (shape_held f))) (as_shape (Ok form.Unmet))
  rows_record fs hs q = no_part row_of f (Record_shape (named_shapes fs (map shape_held hs))) (ap shape_held q ∙ form_record fs hs) refl

  module _ (i : ℕ) where
    pub part_there : (hs : List Form) (r : Result Form Stop) → f ≡ form.Tuple hs → Tells (Val (shape_at i (shapes (map shape_held hs)))) (as_shape r) → Tells (Val (part_of i (shape_held f))) (as_shape r)
    part_there hs r q t = there (part_of i) f (Tuple_shape (shapes (map shape_held hs))) (ap shape_held q ∙ form_tuple hs) (as_shape r) t

    pub part_unmet : f ≡ form.Unmet → Tells (Val (part_of i (shape_held f))) (as_shape (Ok form.Unmet))
    part_unmet q = no_part (part_of i) f Unmet_shape (ap shape_held q ∙ form_unmet) refl

    pub part_scalar : (t : ScalarType) → f ≡ form.Scalar t → Tells (Val (part_of i (shape_held f))) (as_shape (Ok form.Unmet))
    part_scalar t q = no_part (part_of i) f (Scalar_shape t) (ap shape_held q ∙ form_scalar t) refl

    pub part_record : (fs : List Text) (hs : List Form) → f ≡ form.Record fs hs → Tells (Val (part_of i (shape_held f))) (as_shape (Ok form.Unmet))
    part_record fs hs q = no_part (part_of i) f (Record_shape (named_shapes fs (map shape_held hs))) (ap shape_held q ∙ form_record fs hs) refl

    pub part_array : (n : ℕ) (k : Form) → f ≡ form.Array n k → Tells (Val (part_of i (shape_held f))) (as_shape (Ok form.Unmet))
    part_array n k q = no_part (part_of i) f (Array_shape n (shape_held k)) (ap shape_held q ∙ form_array n k) refl

pub ruleset rows_read = (no_memory_for_part, rows_there, rows_unmet, rows_scalar, rows_tuple, rows_record)

pub ruleset parts_read = (part_there, part_unmet, part_scalar, part_record, part_array)

-- ---- one of some forms

past_parts : (fs : List Form) (i : ℕ) → length fs ≤ i → shape_at i (shapes (map shape_held fs)) ≡ Unmet_shape
past_parts [] i l = refl
past_parts (f ∷ fs) zero l = absurd (omega arith)
past_parts (f ∷ fs) (suc i) l = past_parts fs i (omega arith)

at_parts : (fs : List Form) (i : ℕ) (f : Form) → i < length fs → shape_at i (shapes (map shape_held fs)) ≡ shape_held (get_or fs i f)
at_parts [] i f l = absurd (omega arith)
at_parts (g ∷ fs) zero f l = refl
at_parts (g ∷ fs) (suc i) f l = at_parts fs i f (omega arith)

pub no_such_part : (fs : List Form) (i : ℕ) → length fs ≤ i → Tells (Val (shape_at i (shapes (map shape_held fs)))) (as_shape (Ok form.Unmet))
no_such_part fs i l = told (ap Val (past_parts fs i l ∙ sym form_unmet))

pub such_part : (fs : List Form) (i : ℕ) (f g : Form) → i < length fs → g ≡ get_or fs i f → Tells (Val (shape_at i (shapes (map shape_held fs)))) (as_shape (Ok g))
such_part fs i f g l e = told (ap Val (at_parts fs i f l ∙ ap shape_held (sym e)))

pub ruleset one_of_parts = (no_memory_for_part, no_such_part, such_part)

-- ---- arrays of parts

arrays_listed : (n : ℕ) (hs : List Shape) → arrays_of n (shapes hs) ≡ shapes (map (Array_shape n) hs)
arrays_listed n [] = refl
arrays_listed n (h ∷ hs) = ap (shape_and (Array_shape n h)) (arrays_listed n hs)

pub array_made : (n : ℕ) (f g : Form) → g ≡ f → Tells (Val (Array_shape n (shape_held f))) (as_shape (Ok (form.Array n g)))
array_made n f g e = told (ap Val (ap (λ z. Array_shape n (shape_held z)) (sym e) ∙ sym (form_array n g)))

pub ruleset arrays_made = (no_memory_for_part, array_made)

module _ (f : Form) (n : ℕ) where
  pub parts_arrays : (hs ks : List Form) → f ≡ form.Tuple hs → map shape_held ks ≡ map (Array_shape n) (map shape_held hs) → Tells (Val (parts_of n (shape_held f))) (as_shape (Ok (form.Tuple ks)))
  parts_arrays hs ks e q =
      told (ap Val (ap (parts_of n) (ap shape_held e ∙ form_tuple hs) ∙ ap Tuple_shape (arrays_listed n (map shape_held hs)) ∙ sym (form_tuple ks ∙ ap (λ z. Tuple_shape (shapes z)) q)))

  pub unmet_arrays : f ≡ form.Unmet → Tells (Val (parts_of n (shape_held f))) (as_shape (Ok form.Unmet))
  unmet_arrays e = no_part (parts_of n) f Unmet_shape (ap shape_held e ∙ form_unmet) refl

  pub scalar_arrays : (t : ScalarType) → f ≡ form.Scalar t → Tells (Val (parts_of n (shape_held f))) (as_shape (Ok form.Unmet))
  scalar_arrays t e = no_part (parts_of n) f (Scalar_shape t) (ap shape_held e ∙ form_scalar t) refl

  pub record_arrays : (fs : List Text) (hs : List Form) → f ≡ form.Record fs hs → Tells (Val (parts_of n (shape_held f))) (as_shape (Ok form.Unmet))
  record_arrays fs hs e = no_part (parts_of n) f (Record_shape (named_shapes fs (map shape_held hs))) (ap shape_held e ∙ form_record fs hs) refl

  pub array_arrays : (m : ℕ) (k : Form) → f ≡ form.Array m k → Tells (Val (parts_of n (shape_held f))) (as_shape (Ok form.Unmet))
  array_arrays m k e = no_part (parts_of n) f (Array_shape m (shape_held k)) (ap shape_held e ∙ form_array m k) refl

pub ruleset unzipped = (no_memory_for_part, parts_arrays, unmet_arrays, scalar_arrays, record_arrays, array_arrays)

take_one_more : (n : ℕ) (fs : List Form) (i : ℕ) (f : Form) → i < length fs → map (Array_shape n) (map shape_held (take (suc i) fs)) ≡ map (Array_shape n) (map shape_held (take i fs)) ++ Array_shape n (shape_held (get_or fs i f)) ∷ []
take_one_more n [] i f l = absurd (omega arith)
take_one_more n (g ∷ fs) zero f l = refl
take_one_more n (g ∷ fs) (suc i) f l = ap (λ z. Array_shape n (shape_held g) ∷ z) (take_one_more n fs i f (omega arith))

-- the arrays of the first parts
unfoldable pub Arrays_up_to : ℕ → List Form → ℕ → List Form → Type 0
Arrays_up_to n fs i gs = map shape_held gs ≡ map (Array_shape n) (map shape_held (take i fs))

module _ (n : ℕ) (fs : List Form) where
  pub arrays_start : (gs : List Form) → gs ≡ [] → Arrays_up_to n fs 0 gs
  unfolding Arrays_up_to
  arrays_start gs e = ap (map shape_held) e

  pub arrays_more : (i : ℕ) (gs bs : List Form) (f g k : Form) → i < length fs → Arrays_up_to n fs i gs → g ≡ get_or fs i f → k ≡ g → bs ≡ gs ++ form.Array n k ∷ [] → Arrays_up_to n fs (i + 1) bs
  unfolding Arrays_up_to
  arrays_more i gs bs f g k l h e p q =
      ap (map shape_held) q ∙ map_push shape_held gs (form.Array n k) ∙ ap (λ z. z ++ shape_held (form.Array n k) ∷ []) h
      ∙ ap (λ z. map (Array_shape n) (map shape_held (take i fs)) ++ z ∷ []) (form_array n k ∙ ap (λ z. Array_shape n (shape_held z)) (p ∙ e))
      ∙ sym (take_one_more n fs i f l) ∙ ap (λ z. map (Array_shape n) (map shape_held (take z fs))) (sym (add-one i))

  pub arrays_end : (i : ℕ) (gs : List Form) → length fs ≤ i → Arrays_up_to n fs i gs → map shape_held gs ≡ map (Array_shape n) (map shape_held fs)
  unfolding Arrays_up_to
  arrays_end i gs l h = h ∙ ap (λ z. map (Array_shape n) (map shape_held z)) (take_all i fs l)

pub ruleset arrays = (arrays_start, arrays_more, arrays_end)
