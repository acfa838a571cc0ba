-- Rows of arrays at indices.
use Rattle.std.proofs.Common.{◌≡◌, ℕ, zero, suc, ◌+◌, ◌<◌, ◌≤◌, List, [], ◌∷◌, length, slice_get, Some, Ok, Err, Result, Bool, true, false, refl, sym, ap, ◌∙◌, subst, arith}
use Rattle.std.specs.Prelude.{ℤ, pos, negsuc, nat_le}
use Rattle.std.proofs.lemmas.Bool.{le-leb, lt-leb}
use Rattle.fut_scalar.specs.declared.place.Place.{Place}
use Rattle.fut_scalar.specs.declared.report.FailKind.TheVariants as kind
use Rattle.fut_flat.specs.declared.act.Part.TheVariants as part
use Rattle.fut_value.specs.Data.{Shape, Scalar_shape, Tuple_shape, Record_shape, Array_shape, Datum, Scalar_datum, Tuple_datum, Record_datum, Array_datum, listed, shape_of, weight}
use Rattle.fut_meaning.specs.Arrays.{indexed, each_out, exact_of, picks, Pick, Pick_at, and_pick, cuts, cut_of, cut, Cut, Cut_at, size, inner, rows_of, row_or_wrong, within_weight, checked, failure, most_words}
use Rattle.fut_meaning.specs.Outcomes.{Out, Val, Fail, Wrong, and_then}
use Rattle.array_data.specs.declared.form.Form.{Form}
use Rattle.array_data.specs.declared.sizes.Exact.{Exact}
use Rattle.array_data.specs.declared.sizes.Exact.TheVariants as exact
use Rattle.array_data.specs.declared.stop.Stop.{Stop}
use Rattle.array_data.specs.declared.stop.Stop.TheVariants.{Failed, Memory}
use Rattle.array_data.specs.Answers.{Tells, told, report_told, no_memory_told, lost, Counts, counts, no_array, Row_is, row_is, no_memory_row, Exact_is, exact_is, no_integer, exact_held}
use Rattle.array_data.specs.Held.{rows_in, row_shape_in, shape_held}

-- the size of an array is how many rows it has
pub sized_so : (d : Datum) → rows_of d ≡ Val (row_shape_in d, rows_in d) → size (shape_of d) ≡ length (rows_in d)
unfolding shape_of
sized_so (Scalar_datum s) e = refl
sized_so (Tuple_datum ds) e = refl
sized_so (Record_datum fs) e = refl
sized_so (Array_datum h ds) e = refl

module _ (at : Place) (d i : Datum) where
  -- once the index is known
  index_at : ℤ → Out Datum
  index_at z = and_then (and_then (cut_of at (size (shape_of d)) (Pick_at z)) (λ c. Val (c ∷ []))) (λ cs. and_then (cut cs d) (within_weight at))

  index_is : (z : ℤ) → exact_of i ≡ Val z → indexed at (part.At ∷ []) d (i ∷ []) ≡ index_at z
  unfolding indexed picks cuts index_at
  index_is z e = ap (λ o. and_then (and_then o (λ y. and_then (Val []) (λ ys. Val (y ∷ ys)))) (λ zs. and_then (picks (part.At ∷ []) zs) (λ ps. and_then (cuts at ps (shape_of d)) (λ cs. and_then (cut cs d) (within_weight at))))) e

  index_lost : exact_of i ≡ Wrong → indexed at (part.At ∷ []) d (i ∷ []) ≡ Wrong
  unfolding indexed
  index_lost e = ap (λ o. and_then (and_then o (λ y. and_then (Val []) (λ ys. Val (y ∷ ys)))) (λ zs. and_then (picks (part.At ∷ []) zs) (λ ps. and_then (cuts at ps (shape_of d)) (λ cs. and_then (cut cs d) (within_weight at))))) e

  pub pick_no_index : (e : Stop) → Exact_is i (Err e) → Tells (indexed at (part.At ∷ []) d (i ∷ [])) (Err e)
  pick_no_index _ (no_integer q) = lost (index_lost q)

  pub pick_below : (z : Exact) (k : ℕ) → Exact_is i (Ok z) → z ≡ exact.Below k → Tells {A = Datum} (indexed at (part.At ∷ []) d (i ∷ [])) (Err (Failed (record { kind = kind.Bounds; place = at })))
  unfolding exact_held index_at
  pick_below z k (exact_is q) e = report_told (index_is (negsuc k) (q ∙ ap (λ z. Val (exact_held z)) e))

  module _ (z : Exact) (k n : ℕ) (x : Exact_is i (Ok z)) (e : z ≡ exact.Natural k) (g : Counts d (Ok n)) where
    natural_index : indexed at (part.At ∷ []) d (i ∷ []) ≡ index_at (pos k)
    unfolding exact_held
    natural_index = by_exact x
      where
        by_exact : Exact_is i (Ok z) → indexed at (part.At ∷ []) d (i ∷ []) ≡ index_at (pos k)
        by_exact (exact_is q) = index_is (pos k) (q ∙ ap (λ z. Val (exact_held z)) e)

    long_so : size (shape_of d) ≡ n
    long_so = by_counts g
      where
        by_counts : Counts d (Ok n) → size (shape_of d) ≡ n
        by_counts (counts q p) = sized_so d q ∙ sym p

    pub pick_beyond : n ≤ k → Tells {A = Datum} (indexed at (part.At ∷ []) d (i ∷ [])) (Err (Failed (record { kind = kind.Bounds; place = at })))
    unfolding index_at
    pick_beyond l = report_told (natural_index ∙ ap (λ b. and_then (and_then (checked b kind.Bounds at (Val (Cut_at k))) (λ c. Val (c ∷ []))) (λ cs. and_then (cut cs d) (within_weight at))) (lt-leb (suc k) (size (shape_of d)) (omega (arith, long_so))))

    -- the row, whose weight is left to test
    row_there : k < n → (v : Datum) → slice_get (rows_in d) k ≡ Some v → indexed at (part.At ∷ []) d (i ∷ []) ≡ within_weight at v
    unfolding index_at cut
    row_there l v h =
        natural_index ∙ ap (λ b. and_then (and_then (checked b kind.Bounds at (Val (Cut_at k))) (λ c. Val (c ∷ []))) (λ cs. and_then (cut cs d) (within_weight at))) (le-leb (suc k) (size (shape_of d)) (omega (arith, long_so)))
        ∙ ap (λ o. and_then (and_then o (λ r. row_or_wrong (slice_get r.1 k) (λ w. Val w))) (within_weight at)) (an_array g)
        ∙ ap (λ o. and_then (row_or_wrong o (λ w. Val w)) (within_weight at)) h
      where
        an_array : Counts d (Ok n) → rows_of d ≡ Val (row_shape_in d, rows_in d)
        an_array (counts q p) = q

    pub pick_no_row : (e : Stop) → Row_is d k (Err e) → Tells {A = Datum} (indexed at (part.At ∷ []) d (i ∷ [])) (Err e)
    pick_no_row _ no_memory_row = no_memory_told

    module _ (l : k < n) (v : Datum) (h : Form) (s : shape_held h ≡ shape_of v) where
      pub pick_heavy : Row_is d k (Ok v) → false ≡ nat_le (weight (shape_held h)) most_words → Tells {A = Datum} (indexed at (part.At ∷ []) d (i ∷ [])) (Err (Failed (record { kind = kind.TooLarge; place = at })))
      pick_heavy (row_is q) w = report_told (row_there l v q ∙ ap (λ b. checked b kind.TooLarge at (Val v)) (ap (λ y. nat_le (weight y) most_words) (sym s) ∙ sym w))

      pub pick_done : Row_is d k (Ok v) → true ≡ nat_le (weight (shape_held h)) most_words → Tells (indexed at (part.At ∷ []) d (i ∷ [])) (Ok v)
      pick_done (row_is q) w = told (row_there l v q ∙ ap (λ b. checked b kind.TooLarge at (Val v)) (ap (λ y. nat_le (weight y) most_words) (sym s) ∙ sym w))

pub ruleset picking = (no_memory_told, pick_no_index, pick_below, pick_beyond, pick_no_row, pick_heavy, pick_done)
