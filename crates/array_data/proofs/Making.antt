-- Arrays that are made of rows.
use Rattle.std.proofs.Common.{◌≡◌, ℕ, zero, suc, ◌+◌, ◌<◌, ◌≤◌, List, [], ◌∷◌, ◌++◌, map, length, get_or, take, drop, slice_get, Some, Ok, Err, Result, Bool, true, false, refl, sym, ap, ◌∙◌, subst, arith, add-one, append_assoc}
use Rattle.std.specs.Prelude.{◌&&◌, nat_le, max, IfOk}
use Rattle.std.proofs.Math.Seq.{drop-cons}
use Rattle.std.proofs.lemmas.Bool.{le-leb, lt-leb}
use Rattle.std.proofs.lemmas.List.{append-nil}
use Rattle.fut_scalar.specs.declared.place.Place.{Place}
use Rattle.fut_scalar.specs.declared.report.FailKind.{FailKind}
use Rattle.fut_scalar.specs.declared.report.FailKind.TheVariants as kind
use Rattle.fut_scalar.specs.declared.scalar.Scalar.{Scalar}
use Rattle.fut_scalar.specs.declared.scalar.ScalarType.{ScalarType}
use Rattle.fut_scalar.specs.declared.scalar.ScalarType.TheVariants as sort
use Rattle.fut_arithmetic.specs.Types.{type_of}
use Rattle.fut_arithmetic.specs.Words.{scalar_of_word}
use Rattle.fut_value.specs.Data.{Shape, Scalar_shape, Array_shape, Unmet_shape, Datum, Scalar_datum, Array_datum, datums, listed, shape_of, words, heaviest, weight, same_sizes}
use Rattle.fut_meaning.specs.Arrays.{all_like, row_shape, within_weight, checked, fitting, array, array_of, most_words, failure, shared}
use Rattle.fut_meaning.specs.Outcomes.{Out, Val, Fail, Wrong}
use Rattle.array_data.specs.declared.form.Form.{Form}
use Rattle.array_data.specs.declared.form.Form.TheVariants as form
use Rattle.array_data.specs.declared.built.Built.{Built}
use Rattle.array_data.specs.declared.data.Data.{Data}
use Rattle.array_data.specs.declared.data.Data.TheVariants as hold
use Rattle.array_data.specs.declared.stop.Stop.{Stop}
use Rattle.array_data.specs.declared.stop.Stop.TheVariants.{Failed, Memory}
use Rattle.array_data.specs.Answers.{Tells, told, report_told, no_memory_told, lost}
use Rattle.array_data.specs.Changes.{Stands_in, stands_in, misfits, no_memory_for}
use Rattle.array_data.specs.Held.{shape_held, scalars, held, held_all, built_rows, as_held}
use Rattle.array_data.proofs.Building.{no_rows}
use Rattle.array_data.proofs.Forms.{listed_datums, length_scalars, held_length, drop_past}
use Rattle.array_data.proofs.Holding.{held_words, held_rows, form_scalar, form_array}

-- ---- the first row

pub form_none : (h : Form) (ds : List Data) (k : Form) → length ds ≡ 0 → k ≡ h → shape_held k ≡ row_shape (shape_held h) (held_all ds)
unfolding held_all
form_none h [] k l e = ap shape_held e
form_none h (d ∷ ds) k l e = absurd (omega arith)

pub form_first : (h : Form) (ds : List Data) (k f : Form) (d : Data) → (length ds ≡ 0 → ⊥) → k ≡ f → shape_held f ≡ shape_of (held (get_or ds 0 d)) → shape_held k ≡ row_shape (shape_held h) (held_all ds)
unfolding held_all
form_first h [] k f d l e q = absurd (l refl)
form_first h (c ∷ ds) k f d l e q = ap shape_held e ∙ q

pub ruleset rows_form = (form_none, form_first)

-- ---- all rows

unfoldable pub Like_from : Form → List Data → ℕ → Type 0
Like_from h ds i = all_like (shape_held h) (held_all ds) ≡ all_like (shape_held h) (held_all (drop i ds))

module _ (h : Form) (ds : List Data) where
  pub like_start : Like_from h ds 0
  unfolding Like_from
  like_start = refl

  module _ (i : ℕ) (d : Data) (f : Form) (l : i < length ds) (m : Like_from h ds i) (e : shape_held f ≡ shape_of (held (get_or ds i d))) where
    like_here : all_like (shape_held h) (held_all ds) ≡ same_sizes (shape_held h) (shape_held f) && all_like (shape_held h) (held_all (drop (suc i) ds))
    unfolding Like_from held_all
    like_here = m ∙ ap (λ z. all_like (shape_held h) (held_all z)) (drop-cons ds i d l) ∙ ap (λ z. same_sizes (shape_held h) z && all_like (shape_held h) (held_all (drop (suc i) ds))) (sym e)

    pub like_more : true ≡ same_sizes (shape_held h) (shape_held f) → Like_from h ds (i + 1)
    unfolding Like_from
    like_more q = like_here ∙ ap (λ z. z && all_like (shape_held h) (held_all (drop (suc i) ds))) (sym q) ∙ ap (λ z. all_like (shape_held h) (held_all (drop z ds))) (sym (add-one i))

    pub like_stop : false ≡ same_sizes (shape_held h) (shape_held f) → false ≡ all_like (shape_held h) (held_all ds)
    like_stop q = sym (like_here ∙ ap (λ z. z && all_like (shape_held h) (held_all (drop (suc i) ds))) (sym q))

  pub like_end : (i : ℕ) → length ds ≤ i → Like_from h ds i → true ≡ all_like (shape_held h) (held_all ds)
  unfolding Like_from held_all
  like_end i l m = sym (m ∙ ap (λ z. all_like (shape_held h) (held_all z)) (drop_past ds i l))

pub ruleset rows_like = (like_start, like_more, like_stop, like_end)

-- ---- arrays

-- what an array comes to, where its tests are known
module _ (at : Place) (otherwise h : Shape) (ds : List Datum) (e : h ≡ row_shape otherwise ds) where
  array_sizes : (b : Bool) → b ≡ all_like h ds → array false at otherwise ds ≡ fitting false b at (within_weight at (Array_datum h (datums ds)))
  unfolding array
  array_sizes b q = ap (λ z. fitting false (all_like z ds) at (within_weight at (Array_datum z (datums ds)))) (sym e) ∙ ap (λ z. fitting false z at (within_weight at (Array_datum h (datums ds)))) (sym q)

  weighed_array : (b : Bool) → b ≡ nat_le (weight (Array_shape (length ds) h)) most_words → within_weight at (Array_datum h (datums ds)) ≡ checked b kind.TooLarge at (Val (Array_datum h (datums ds)))
  unfolding shape_of
  weighed_array b q = ap (λ z. checked (nat_le (weight (Array_shape (length z) h)) most_words) kind.TooLarge at (Val (Array_datum h (datums ds)))) (listed_datums ds) ∙ ap (λ z. checked z kind.TooLarge at (Val (Array_datum h (datums ds)))) (sym q)

  pub array_misfits : false ≡ all_like h ds → array false at otherwise ds ≡ failure kind.Size at
  array_misfits q = array_sizes false q

  pub array_heavy : true ≡ all_like h ds → false ≡ nat_le (weight (Array_shape (length ds) h)) most_words → array false at otherwise ds ≡ failure kind.TooLarge at
  array_heavy q w = array_sizes true q ∙ weighed_array false w

  pub array_is : true ≡ all_like h ds → true ≡ nat_le (weight (Array_shape (length ds) h)) most_words → array false at otherwise ds ≡ Val (Array_datum h (datums ds))
  array_is q w = array_sizes true q ∙ weighed_array true w

-- ---- arrays of rows

module _ (at : Place) (o : Form) (ds : List Data) (h : Form) (e : shape_held h ≡ row_shape (shape_held o) (held_all ds)) where
  pub rows_misfit : false ≡ all_like (shape_held h) (held_all ds) → Tells (array false at (shape_held o) (held_all ds)) (as_held (Err (Failed (record { kind = kind.Size; place = at }))))
  rows_misfit q = report_told (array_misfits at (shape_held o) (shape_held h) (held_all ds) e q)

  module _ (q : true ≡ all_like (shape_held h) (held_all ds)) (w k : Form) (n : ℕ) (f : w ≡ form.Array n k) (f' : k ≡ h) (g : n ≡ length ds) where
    whole_shape : shape_held w ≡ Array_shape (length (held_all ds)) (shape_held h)
    whole_shape = ap shape_held f ∙ form_array n k ∙ ap (λ z. Array_shape n (shape_held z)) f' ∙ ap (λ z. Array_shape z (shape_held h)) (g ∙ sym (held_length ds))

    pub rows_heavy : false ≡ nat_le (weight (shape_held w)) most_words → Tells (array false at (shape_held o) (held_all ds)) (as_held (Err (Failed (record { kind = kind.TooLarge; place = at }))))
    rows_heavy l = report_told (array_heavy at (shape_held o) (shape_held h) (held_all ds) e q (l ∙ ap (λ z. nat_le (weight z) most_words) whole_shape))

    pub rows_done : true ≡ nat_le (weight (shape_held w)) most_words → (m : ℕ) (xs : List Data) → xs ≡ ds → Tells (array false at (shape_held o) (held_all ds)) (as_held (Ok (hold.Rows m h xs)))
    rows_done l m xs x = told (array_is at (shape_held o) (shape_held h) (held_all ds) e q (l ∙ ap (λ z. nat_le (weight z) most_words) whole_shape) ∙ ap Val (sym (held_rows m h ds)) ∙ ap (λ z. Val (held (hold.Rows m h z))) (sym x))

-- ---- arrays of words

type_back : (t : ScalarType) (w : ℕ) → type_of (scalar_of_word t w) ≡ t
type_back (sort.Int t) w = refl
type_back sort.Bool w = refl

like_scalars : (t u : ScalarType) (ws : List ℕ) → all_like (Scalar_shape u) (scalars t ws) ≡ true
unfolding scalars same_sizes shape_of
like_scalars t u [] = refl
like_scalars t u (w ∷ ws) = like_scalars t u ws

row_of_scalars : (o : Shape) (t : ScalarType) (ws : List ℕ) → 0 < length ws → Scalar_shape t ≡ row_shape o (scalars t ws)
unfolding scalars shape_of
row_of_scalars o t [] l = absurd (omega arith)
row_of_scalars o t (w ∷ ws) l = ap Scalar_shape (sym (type_back t w))

weight_of_scalars : (t : ScalarType) (n : ℕ) → weight (Array_shape n (Scalar_shape t)) ≡ n
unfolding weight heaviest words
weight_of_scalars t n = omega arith

module _ (at : Place) (t : ScalarType) (ws : List ℕ) (l : 0 < length ws) where
  scalars_weigh : nat_le (weight (Array_shape (length (scalars t ws)) (Scalar_shape t))) most_words ≡ nat_le (length ws) most_words
  scalars_weigh = ap (λ z. nat_le z most_words) (weight_of_scalars t (length (scalars t ws)) ∙ length_scalars t ws)

  pub words_heavy : 33554432 < length ws → (o : Shape) → Tells (array false at o (scalars t ws)) (as_held (Err (Failed (record { kind = kind.TooLarge; place = at }))))
  words_heavy m o = report_told (array_heavy at o (Scalar_shape t) (scalars t ws) (row_of_scalars o t ws l) (sym (like_scalars t t ws)) (sym (scalars_weigh ∙ lt-leb (length ws) most_words m)))

  pub words_done : (vs : List ℕ) → length ws ≤ 33554432 → vs ≡ ws → (o : Shape) → Tells (array false at o (scalars t ws)) (as_held (Ok (hold.Words t vs)))
  words_done vs m e o = told (array_is at o (Scalar_shape t) (scalars t ws) (row_of_scalars o t ws l) (sym (like_scalars t t ws)) (sym (scalars_weigh ∙ le-leb (length ws) most_words m))
      ∙ ap Val (sym (held_words t ws)) ∙ ap (λ z. Val (held (hold.Words t z))) (sym e))

pub words_memory : (at : Place) (t : ScalarType) (ws : List ℕ) (o : Shape) → Tells (array false at o (scalars t ws)) (as_held (Err Memory))
words_memory at t ws o = no_memory_told

-- ---- what was put together

no_scalars : (t : ScalarType) (ws : List ℕ) → length ws ≡ 0 → scalars t ws ≡ []
unfolding scalars
no_scalars t [] e = refl
no_scalars t (w ∷ ws) e = absurd (omega arith)

built_all_rows : (b : Built) → length b.words ≡ 0 → built_rows b ≡ held_all b.rows
unfolding built_rows
built_all_rows b l = ap (λ z. z ++ held_all b.rows) (no_scalars b.ty b.words l)

built_all_words : (b : Built) → length b.rows ≤ 0 → built_rows b ≡ scalars b.ty b.words
unfolding built_rows held_all
built_all_words b l = ap (λ z. scalars b.ty b.words ++ held_all z) (no_rows b.rows l) ∙ append-nil (scalars b.ty b.words)

pub from_rows : (at : Place) (o : Form) (b : Built) (ds : List Data) (r : Result Data Stop) → length b.words ≡ 0 → ds ≡ b.rows → Tells (array false at (shape_held o) (held_all ds)) (as_held r) → Tells (array false at (shape_held o) (built_rows b)) (as_held r)
from_rows at o b ds r l e h = subst (λ z. Tells (array false at (shape_held o) z) (as_held r)) (ap held_all e ∙ sym (built_all_rows b l)) h

pub from_words : (at : Place) (o : Form) (b : Built) (t : ScalarType) (ws : List ℕ) (r : Result Data Stop) → length b.rows ≤ 0 → t ≡ b.ty → ws ≡ b.words → ((h : Shape) → Tells (array false at h (scalars t ws)) (as_held r)) → Tells (array false at (shape_held o) (built_rows b)) (as_held r)
from_words at o b t ws r l e q h = subst (λ z. Tells (array false at (shape_held o) z) (as_held r)) (ap (λ z. scalars z ws) e ∙ ap (scalars b.ty) q ∙ sym (built_all_words b l)) (h (shape_held o))

pub ruleset making = (no_memory_told, rows_misfit, rows_heavy, rows_done, words_heavy, words_done, words_memory, from_rows, from_words)

pub untested_rows : (h : Form) (b : Built) (m : ℕ) (k : Form) (ds : List Data) → length b.words ≡ 0 → k ≡ h → ds ≡ b.rows → held (hold.Rows m k ds) ≡ Array_datum (shape_held h) (datums (built_rows b))
untested_rows h b m k ds l e q = held_rows m k ds ∙ ap (λ z. Array_datum (shape_held z) (datums (held_all ds))) e ∙ ap (λ z. Array_datum (shape_held h) (datums (held_all z))) q ∙ ap (λ z. Array_datum (shape_held h) (datums z)) (sym (built_all_rows b l))

pub untested_words : (h : Form) (b : Built) (t : ScalarType) (ws : List ℕ) → length b.rows ≤ 0 → h ≡ form.Scalar t → t ≡ b.ty → ws ≡ b.words → held (hold.Words t ws) ≡ Array_datum (shape_held h) (datums (built_rows b))
untested_words h b t ws l f e q =
    held_words t ws ∙ ap (λ z. Array_datum z (datums (scalars t ws))) (sym (form_scalar t) ∙ sym (ap shape_held f))
    ∙ ap (λ z. Array_datum (shape_held h) (datums (scalars z ws))) e ∙ ap (λ z. Array_datum (shape_held h) (datums (scalars b.ty z))) q ∙ ap (λ z. Array_datum (shape_held h) (datums z)) (sym (built_all_words b l))

pub ruleset untested_making = (untested_rows, untested_words)

-- ---- rows in the place of those of an array

pub like_built : {E : Type 0} (h : Form) (b : Built) (r : Result Bool E) → length b.words ≡ 0 → IfOk r (λ t. t ≡ all_like (shape_held h) (held_all b.rows)) → IfOk r (λ t. t ≡ all_like (shape_held h) (built_rows b))
like_built h b r l i = subst (λ z. IfOk r (λ t. t ≡ all_like (shape_held h) z)) (sym (built_all_rows b l)) i

pub like_words : (h : Form) (b : Built) (u : ScalarType) → length b.rows ≤ 0 → h ≡ form.Scalar u → true ≡ all_like (shape_held h) (built_rows b)
like_words h b u l e = sym (ap (all_like (shape_held h)) (built_all_words b l) ∙ ap (λ z. all_like z (scalars b.ty b.words)) (ap shape_held e ∙ form_scalar u) ∙ like_scalars b.ty u b.words)

pub ruleset all_rows_like = (like_built, like_words)

module _ (at : Place) (h : Shape) (row : Shape) (ds : List Datum) (e : h ≡ row) where
  pub not_in_place : false ≡ all_like h ds → Stands_in at row ds (Err (Failed (record { kind = kind.Size; place = at })))
  not_in_place q = misfits (ap (λ z. fitting false (all_like z ds) at (shared (Array_datum row (datums ds)))) (sym e) ∙ ap (λ b. fitting false b at (shared (Array_datum row (datums ds)))) (sym q))

  pub put_in_place : (d : Datum) → true ≡ all_like h ds → d ≡ Array_datum h (datums ds) → Stands_in at row ds (Ok d)
  put_in_place d q p = stands_in (ap (λ z. fitting false (all_like z ds) at (shared (Array_datum row (datums ds)))) (sym e) ∙ ap (λ b. fitting false b at (shared (Array_datum row (datums ds)))) (sym q)
      ∙ ap (λ z. shared (Array_datum z (datums ds))) (sym e) ∙ ap shared (sym p))

pub ruleset standing_in = (not_in_place, put_in_place, no_memory_for)

-- ---- rows of a form that is known

module _ (at : Place) (h w k : Form) (b : Built) (n : ℕ) (g : n ≡ length (built_rows b)) (f : w ≡ form.Array n k) (f' : k ≡ h) where
  known_weight : (t : Bool) → t ≡ nat_le (weight (shape_held w)) most_words → array_of at (shape_held h) (built_rows b) ≡ checked t kind.TooLarge at (Val (Array_datum (shape_held h) (datums (built_rows b))))
  unfolding shape_of
  known_weight t e =
      ap (λ z. checked (nat_le (weight (Array_shape (length z) (shape_held h))) most_words) kind.TooLarge at (Val (Array_datum (shape_held h) (datums (built_rows b))))) (listed_datums (built_rows b))
      ∙ ap (λ z. checked (nat_le (weight z) most_words) kind.TooLarge at (Val (Array_datum (shape_held h) (datums (built_rows b)))))
      (ap (λ z. Array_shape z (shape_held h)) (sym g) ∙ ap (λ z. Array_shape n (shape_held z)) (sym f') ∙ sym (form_array n k) ∙ sym (ap shape_held f))
      ∙ ap (λ z. checked z kind.TooLarge at (Val (Array_datum (shape_held h) (datums (built_rows b))))) (sym e)

  pub known_heavy : false ≡ nat_le (weight (shape_held w)) most_words → Tells (array_of at (shape_held h) (built_rows b)) (as_held (Err (Failed (record { kind = kind.TooLarge; place = at }))))
  known_heavy e = report_told (known_weight false e)

  pub known_done : (d : Data) → true ≡ nat_le (weight (shape_held w)) most_words → held d ≡ Array_datum (shape_held h) (datums (built_rows b)) → Tells (array_of at (shape_held h) (built_rows b)) (as_held (Ok d))
  known_done d e q = told (known_weight true e ∙ ap Val (sym q))

pub ruleset known_making = (known_heavy, known_done, no_memory_told)
