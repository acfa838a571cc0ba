-- Forms that are made of data, and how they agree.
use Rattle.std.proofs.Common.{◌≡◌, ℕ, zero, suc, ◌+◌, ◌<◌, ◌≤◌, List, [], ◌∷◌, ◌++◌, map, length, get_or, take, drop, Bool, true, false, refl, sym, ap, ◌∙◌, subst, arith, add-one}
use Rattle.std.specs.Prelude.{◌&&◌, nat_eq, ◌%◌, ◌^◌}
use Rattle.std.proofs.Math.Seq.{drop-cons}
use Rattle.std.proofs.lemmas.Bool.{ne_eqb, eq-eqb}
use Rattle.std.proofs.lemmas.List.{take_all}
use Rattle.fut_scalar.specs.Integers.{width_of}
use Rattle.fut_scalar.specs.declared.scalar.Scalar.{Scalar}
use Rattle.fut_scalar.specs.declared.scalar.Scalar.TheVariants as scalar
use Rattle.fut_scalar.specs.declared.scalar.ScalarType.{ScalarType}
use Rattle.fut_scalar.specs.declared.scalar.ScalarType.TheVariants as sort
use Rattle.fut_arithmetic.specs.Types.{type_of}
use Rattle.fut_arithmetic.specs.Words.{scalar_of_word}
use Rattle.fut_value.specs.Data.{Shape, Scalar_shape, Tuple_shape, Array_shape, Record_shape, Unmet_shape, Shapes, no_shape, shape_and, Datum, Scalar_datum, Tuple_datum, Array_datum, Datums, no_datum, datum_and, datums, listed, shape_of, shapes_of, is_unmet, all_unmet, same_sizes, all_same_sizes}
use Rattle.array_data.specs.declared.form.Form.{Form}
use Rattle.array_data.specs.declared.form.Form.TheVariants as form
use Rattle.array_data.specs.declared.data.Data.{Data}
use Rattle.array_data.specs.declared.data.Data.TheVariants as hold
use Rattle.array_data.specs.Held.{shapes, shape_held, shapes_held, fitted, scalars, held, held_all, held_shapes}
use Rattle.array_data.proofs.Holding.{held_scalar, held_words, held_rows, held_tuple, form_unmet, form_scalar, form_tuple, form_array}

pub listed_datums : (ds : List Datum) → listed (datums ds) ≡ ds
listed_datums [] = refl
listed_datums (d ∷ ds) = ap (λ z. d ∷ z) (listed_datums ds)

pub length_scalars : (t : ScalarType) (ws : List ℕ) → length (scalars t ws) ≡ length ws
unfolding scalars
length_scalars t [] = refl
length_scalars t (w ∷ ws) = ap suc (length_scalars t ws)

pub held_length : (ds : List Data) → length (held_all ds) ≡ length ds
unfolding held_all
held_length [] = refl
held_length (d ∷ ds) = ap suc (held_length ds)

-- ---- the form of data

fitted_sort : (s : Scalar) → type_of (fitted s) ≡ type_of s
fitted_sort (scalar.Int t n) = refl
fitted_sort (scalar.Bool b) = refl

pub form_of_scalar : (s : Scalar) (t : ScalarType) → t ≡ type_of s → shape_held (form.Scalar t) ≡ shape_of (held (hold.Scalar s))
unfolding shape_of
form_of_scalar s t e = form_scalar t ∙ ap Scalar_shape (e ∙ sym (fitted_sort s)) ∙ ap shape_of (sym (held_scalar s))

pub form_of_words : (t : ScalarType) (ws : List ℕ) (h : Form) (n : ℕ) → h ≡ form.Scalar t → n ≡ length ws → shape_held (form.Array n h) ≡ shape_of (held (hold.Words t ws))
unfolding shape_of
form_of_words t ws h n e q =
    form_array n h ∙ ap (Array_shape n) (ap shape_held e ∙ form_scalar t)
    ∙ ap (λ k. Array_shape k (Scalar_shape t)) (q ∙ sym (length_scalars t ws) ∙ sym (ap length (listed_datums (scalars t ws)))) ∙ ap shape_of (sym (held_words t ws))

pub form_of_rows : (m : ℕ) (h : Form) (ds : List Data) (k : Form) (n : ℕ) → k ≡ h → n ≡ length ds → shape_held (form.Array n k) ≡ shape_of (held (hold.Rows m h ds))
unfolding shape_of
form_of_rows m h ds k n e q =
    form_array n k ∙ ap (λ z. Array_shape n (shape_held z)) e
    ∙ ap (λ k. Array_shape k (shape_held h)) (q ∙ sym (held_length ds) ∙ sym (ap length (listed_datums (held_all ds)))) ∙ ap shape_of (sym (held_rows m h ds))

shapes_all : (ds : List Data) → shapes (held_shapes ds) ≡ shapes_of (datums (held_all ds))
unfolding held_shapes held_all shapes_of
shapes_all [] = refl
shapes_all (d ∷ ds) = ap (shape_and (shape_of (held d))) (shapes_all ds)

pub form_of_tuple : (m : ℕ) (ds : List Data) (hs : List Form) → map shape_held hs ≡ held_shapes ds → shape_held (form.Tuple hs) ≡ shape_of (held (hold.Tuple m ds))
unfolding shape_of
form_of_tuple m ds hs e = form_tuple hs ∙ ap (λ z. Tuple_shape (shapes z)) e ∙ ap Tuple_shape (shapes_all ds) ∙ ap shape_of (sym (held_tuple m ds))

pub ruleset forms_made = (form_of_scalar, form_of_words, form_of_rows, form_of_tuple)

-- ---- forms of a list

take_more : (ds : List Data) (i : ℕ) (d : Data) → i < length ds → held_shapes (take (suc i) ds) ≡ held_shapes (take i ds) ++ shape_of (held (get_or ds i d)) ∷ []
unfolding held_shapes
take_more [] i d l = absurd (omega arith)
take_more (e ∷ ds) zero d l = refl
take_more (e ∷ ds) (suc i) d l = ap (λ z. shape_of (held e) ∷ z) (take_more ds i d (omega arith))

pub map_push : {A B : Type 0} (f : A → B) (xs : List A) (x : A) → map f (xs ++ x ∷ []) ≡ map f xs ++ f x ∷ []
map_push f [] x = refl
map_push f (y ∷ xs) x = ap (λ z. f y ∷ z) (map_push f xs x)

unfoldable pub Forms_made : List Data → ℕ → List Form → Type 0
Forms_made ds i hs = map shape_held hs ≡ held_shapes (take i ds)

module _ (ds : List Data) where
  pub made_start : (hs : List Form) → hs ≡ [] → Forms_made ds 0 hs
  unfolding Forms_made held_shapes
  made_start hs e = ap (map shape_held) e

  pub made_more : (i : ℕ) (d : Data) (hs ks : List Form) (h : Form) → i < length ds → Forms_made ds i hs → shape_held h ≡ shape_of (held (get_or ds i d)) → ks ≡ hs ++ h ∷ [] → Forms_made ds (i + 1) ks
  unfolding Forms_made
  made_more i d hs ks h l m e q =
      ap (map shape_held) q ∙ map_push shape_held hs h ∙ ap (λ z. z ++ shape_held h ∷ []) m ∙ ap (λ z. held_shapes (take i ds) ++ z ∷ []) e
      ∙ sym (take_more ds i d l) ∙ ap (λ z. held_shapes (take z ds)) (sym (add-one i))

  pub made_end : (i : ℕ) (hs : List Form) → length ds ≤ i → Forms_made ds i hs → map shape_held hs ≡ held_shapes ds
  unfolding Forms_made
  made_end i hs l m = m ∙ ap held_shapes (take_all i ds l)

pub ruleset all_forms_made = (made_start, made_more, made_end)

-- ---- sizes that are 0

pub unmet_unmet : is_unmet (shape_held form.Unmet) ≡ true
unfolding is_unmet
unmet_unmet = ap is_unmet form_unmet

pub unmet_scalar : (t : ScalarType) → is_unmet (shape_held (form.Scalar t)) ≡ true
unfolding is_unmet
unmet_scalar t = ap is_unmet (form_scalar t)

pub unmet_tuple : (hs : List Form) → is_unmet (shape_held (form.Tuple hs)) ≡ all_unmet (shapes_held hs)
unfolding is_unmet shapes_held
unmet_tuple hs = ap is_unmet (form_tuple hs)

pub unmet_array : (n : ℕ) (h : Form) → is_unmet (shape_held (form.Array n h)) ≡ nat_eq n 0 && is_unmet (shape_held h)
unfolding is_unmet
unmet_array n h = ap is_unmet (form_array n h)

pub unmet_rows : (n : ℕ) (h : Form) → (n ≡ 0 → ⊥) → is_unmet (shape_held (form.Array n h)) ≡ false
unmet_rows n h e = unmet_array n h ∙ ap (λ z. z && is_unmet (shape_held h)) (ne_eqb n 0 e)

pub unmet_none : (n : ℕ) (h : Form) → n ≡ 0 → is_unmet (shape_held (form.Array n h)) ≡ is_unmet (shape_held h)
unmet_none n h e = unmet_array n h ∙ ap (λ z. nat_eq z 0 && is_unmet (shape_held h)) e

-- the forms from a place on
unfoldable pub Unmet_from : List Form → ℕ → Type 0
Unmet_from hs i = all_unmet (shapes_held hs) ≡ all_unmet (shapes_held (drop i hs))

pub shapes_here : (hs : List Form) (i : ℕ) (d : Form) → i < length hs → shapes_held (drop i hs) ≡ shape_and (shape_held (get_or hs i d)) (shapes_held (drop (suc i) hs))
unfolding shapes_held
shapes_here hs i d l = ap (λ z. shapes (map shape_held z)) (drop-cons hs i d l)

pub drop_past : {A : Type 0} (xs : List A) (n : ℕ) → length xs ≤ n → drop n xs ≡ []
drop_past [] zero l = refl
drop_past [] (suc n) l = refl
drop_past (x ∷ xs) zero l = absurd (omega arith)
drop_past (x ∷ xs) (suc n) l = drop_past xs n (omega arith)

module _ (hs : List Form) where
  pub unmet_start : Unmet_from hs 0
  unfolding Unmet_from
  unmet_start = refl

  module _ (i : ℕ) (d : Form) (l : i < length hs) (m : Unmet_from hs i) where
    unmet_here : all_unmet (shapes_held hs) ≡ is_unmet (shape_held (get_or hs i d)) && all_unmet (shapes_held (drop (suc i) hs))
    unfolding Unmet_from all_unmet
    unmet_here = m ∙ ap all_unmet (shapes_here hs i d l)

    pub unmet_more : true ≡ is_unmet (shape_held (get_or hs i d)) → Unmet_from hs (i + 1)
    unfolding Unmet_from
    unmet_more e = unmet_here ∙ ap (λ z. z && all_unmet (shapes_held (drop (suc i) hs))) (sym e) ∙ ap (λ z. all_unmet (shapes_held (drop z hs))) (sym (add-one i))

    pub unmet_stop : false ≡ is_unmet (shape_held (get_or hs i d)) → false ≡ all_unmet (shapes_held hs)
    unmet_stop e = sym (unmet_here ∙ ap (λ z. z && all_unmet (shapes_held (drop (suc i) hs))) (sym e))

  pub unmet_end : (i : ℕ) → length hs ≤ i → Unmet_from hs i → true ≡ all_unmet (shapes_held hs)
  unfolding Unmet_from shapes_held all_unmet
  unmet_end i l m = sym (m ∙ ap (λ z. all_unmet (shapes (map shape_held z))) (drop_past hs i l))

pub ruleset unmet = (unmet_unmet, unmet_scalar, unmet_tuple, unmet_rows, unmet_none, unmet_start, unmet_more, unmet_stop, unmet_end)

-- ---- forms that agree

pub agree_left : (k : Form) → same_sizes (shape_held form.Unmet) (shape_held k) ≡ is_unmet (shape_held k)
unfolding same_sizes
agree_left k = ap (λ z. same_sizes z (shape_held k)) form_unmet

unmet_right : (h : Shape) → same_sizes h Unmet_shape ≡ is_unmet h
unfolding same_sizes is_unmet
unmet_right (Scalar_shape t) = refl
unmet_right (Tuple_shape hs) = refl
unmet_right (Record_shape hs) = refl
unmet_right (Array_shape n h) = refl
unmet_right Unmet_shape = refl

pub agree_right : (h : Form) → same_sizes (shape_held h) (shape_held form.Unmet) ≡ is_unmet (shape_held h)
agree_right h = ap (same_sizes (shape_held h)) form_unmet ∙ unmet_right (shape_held h)

pub agree_tuples : (hs ks : List Form) → same_sizes (shape_held (form.Tuple hs)) (shape_held (form.Tuple ks)) ≡ all_same_sizes (shapes_held hs) (shapes_held ks)
unfolding same_sizes shapes_held
agree_tuples hs ks = rw (form_tuple hs, form_tuple ks) refl

pub agree_arrays : (n m : ℕ) (h k : Form) → same_sizes (shape_held (form.Array n h)) (shape_held (form.Array m k)) ≡ nat_eq n m && same_sizes (shape_held h) (shape_held k)
unfolding same_sizes
agree_arrays n m h k = rw (form_array n h, form_array m k) refl

pub agree_not : (n m : ℕ) (h k : Form) → (n ≡ m → ⊥) → same_sizes (shape_held (form.Array n h)) (shape_held (form.Array m k)) ≡ false
agree_not n m h k e = agree_arrays n m h k ∙ ap (λ z. z && same_sizes (shape_held h) (shape_held k)) (ne_eqb n m e)

pub agree_rows : (n m : ℕ) (h k : Form) → n ≡ m → same_sizes (shape_held (form.Array n h)) (shape_held (form.Array m k)) ≡ same_sizes (shape_held h) (shape_held k)
agree_rows n m h k e = agree_arrays n m h k ∙ ap (λ z. nat_eq z m && same_sizes (shape_held h) (shape_held k)) e ∙ ap (λ z. z && same_sizes (shape_held h) (shape_held k)) (eq-eqb m m refl)

pub agree_scalar : (t : ScalarType) (k : Form) → same_sizes (shape_held (form.Scalar t)) (shape_held k) ≡ true
unfolding same_sizes is_unmet
agree_scalar t k = ap (λ z. same_sizes z (shape_held k)) (form_scalar t) ∙ by_shape (shape_held k)
  where
    by_shape : (k : Shape) → same_sizes (Scalar_shape t) k ≡ true
    by_shape (Scalar_shape u) = refl
    by_shape (Tuple_shape hs) = refl
    by_shape (Record_shape hs) = refl
    by_shape (Array_shape n h) = refl
    by_shape Unmet_shape = refl

pub agree_tuple_scalar : (hs : List Form) (t : ScalarType) → same_sizes (shape_held (form.Tuple hs)) (shape_held (form.Scalar t)) ≡ true
unfolding same_sizes
agree_tuple_scalar hs t = rw (form_tuple hs, form_scalar t) refl

pub agree_tuple_array : (hs : List Form) (n : ℕ) (k : Form) → same_sizes (shape_held (form.Tuple hs)) (shape_held (form.Array n k)) ≡ true
unfolding same_sizes
agree_tuple_array hs n k = rw (form_tuple hs, form_array n k) refl

pub agree_array_scalar : (n : ℕ) (h : Form) (t : ScalarType) → same_sizes (shape_held (form.Array n h)) (shape_held (form.Scalar t)) ≡ true
unfolding same_sizes
agree_array_scalar n h t = rw (form_array n h, form_scalar t) refl

pub agree_array_tuple : (n : ℕ) (h : Form) (ks : List Form) → same_sizes (shape_held (form.Array n h)) (shape_held (form.Tuple ks)) ≡ true
unfolding same_sizes
agree_array_tuple n h ks = rw (form_array n h, form_tuple ks) refl

-- the forms from a place on
unfoldable pub Agree_from : List Form → List Form → ℕ → Type 0
Agree_from hs ks i = all_same_sizes (shapes_held hs) (shapes_held ks) ≡ all_same_sizes (shapes_held (drop i hs)) (shapes_held (drop i ks))

module _ (hs ks : List Form) where
  pub agree_start : Agree_from hs ks 0
  unfolding Agree_from
  agree_start = refl

  module _ (i : ℕ) (m : Agree_from hs ks i) where
    pub agree_short : i < length hs → length ks ≤ i → true ≡ all_same_sizes (shapes_held hs) (shapes_held ks)
    unfolding Agree_from shapes_held all_same_sizes
    agree_short l k = sym (m ∙ ap (λ z. all_same_sizes (shapes_held (drop i hs)) (shapes (map shape_held z))) (drop_past ks i k) ∙ none_left (shapes_held (drop i hs)))
      where
        none_left : (hs : Shapes) → all_same_sizes hs no_shape ≡ true
        none_left no_shape = refl
        none_left (shape_and h hs) = refl

    module _ (d e : Form) (l : i < length hs) (k : i < length ks) where
      agree_here : all_same_sizes (shapes_held hs) (shapes_held ks) ≡ same_sizes (shape_held (get_or hs i d)) (shape_held (get_or ks i e)) && all_same_sizes (shapes_held (drop (suc i) hs)) (shapes_held (drop (suc i) ks))
      unfolding Agree_from all_same_sizes
      agree_here = m ∙ ap (λ z. all_same_sizes z (shapes_held (drop i ks))) (shapes_here hs i d l) ∙ ap (all_same_sizes (shape_and (shape_held (get_or hs i d)) (shapes_held (drop (suc i) hs)))) (shapes_here ks i e k)

      pub agree_more : true ≡ same_sizes (shape_held (get_or hs i d)) (shape_held (get_or ks i e)) → Agree_from hs ks (i + 1)
      unfolding Agree_from
      agree_more q = agree_here ∙ ap (λ z. z && all_same_sizes (shapes_held (drop (suc i) hs)) (shapes_held (drop (suc i) ks))) (sym q) ∙ ap (λ z. all_same_sizes (shapes_held (drop z hs)) (shapes_held (drop z ks))) (sym (add-one i))

      pub agree_stop : false ≡ same_sizes (shape_held (get_or hs i d)) (shape_held (get_or ks i e)) → false ≡ all_same_sizes (shapes_held hs) (shapes_held ks)
      agree_stop q = sym (agree_here ∙ ap (λ z. z && all_same_sizes (shapes_held (drop (suc i) hs)) (shapes_held (drop (suc i) ks))) (sym q))

  pub agree_end : (i : ℕ) → length hs ≤ i → Agree_from hs ks i → true ≡ all_same_sizes (shapes_held hs) (shapes_held ks)
  unfolding Agree_from shapes_held all_same_sizes
  agree_end i l m = sym (m ∙ ap (λ z. all_same_sizes (shapes (map shape_held z)) (shapes_held (drop i ks))) (drop_past hs i l))

pub ruleset agreeing = (agree_left, agree_right, agree_scalar, agree_tuples, agree_not, agree_rows, agree_tuple_scalar, agree_tuple_array, agree_array_scalar, agree_array_tuple, agree_start, agree_short, agree_more, agree_stop, agree_end)
