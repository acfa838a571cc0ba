-- Arrays with another row at an index.
use Rattle.std.proofs.Common.{◌≡◌, ℕ, zero, suc, ◌+◌, ◌-◌, ◌<◌, ◌≤◌, List, [], ◌∷◌, ◌++◌, map, length, get_or, take, drop, slice_get, Some, None, Option, Ok, Err, Result, Bool, true, false, refl, sym, ap, ◌∙◌, subst, arith, add-one}
use Rattle.std.specs.Prelude.{ℤ, pos, negsuc, slice_set, unsigned_abs}
use Rattle.fut_scalar.specs.declared.place.Place.{Place}
use Rattle.fut_scalar.specs.declared.report.FailKind.TheVariants as kind
use Rattle.fut_value.specs.Data.{Shape, Datum, Array_datum, datums, shape_of, same_sizes}
use Rattle.fut_meaning.specs.Arrays.{each_out, exact_of, last_apart, updated, rows_of, row_at, row_or_wrong, or_bounds, fitting}
use Rattle.fut_meaning.specs.Outcomes.{Out, Val, Fail, Wrong, and_then}
use Rattle.array_data.specs.declared.data.Data.{Data}
use Rattle.array_data.specs.declared.sizes.Exact.{Exact}
use Rattle.array_data.specs.declared.sizes.Exact.TheVariants as exact
use Rattle.array_data.specs.declared.stop.Stop.{Stop}
use Rattle.array_data.specs.declared.stop.Stop.TheVariants.{Failed, Memory}
use Rattle.array_data.specs.Answers.{Tells, told, report_told, no_memory_told, lost, Copied, copied, not_copied, Added, added, not_added, All_added, all_added, not_all_added, Counts, counts, no_array, Row_is, row_is, no_memory_row, Exact_is, exact_is, no_integer, exact_held}
use Rattle.array_data.specs.Changes.{Replaced, replaced, Taken_out, taken_out, not_taken_out}
use Rattle.array_data.specs.Held.{held, held_all, as_held, rows_in, row_shape_in}
use Rattle.array_primitives.specs.Updates.{Updated_inside, replaced_by, updated_at, updated_of}
use Rattle.array_primitives.proofs.Asking.{Never_fails, has_value, is_wrong, all_never, rest_of}

pub long_there : (d : Datum) (n : ℕ) → Counts d (Ok n) → n ≡ length (rows_in d)
long_there d n (counts q p) = p

-- ---- data in place of other data

module _ (at : Place) (d v : Datum) (f f' : Shape) (p : f ≡ shape_of d) (p' : f' ≡ shape_of v) where
  fits_so : (b : Bool) → b ≡ same_sizes f f' → replaced_by at d v ≡ fitting false b at (Val v)
  fits_so b q = ap (λ b. fitting false b at (Val v)) (ap (λ h. same_sizes h (shape_of v)) (sym p) ∙ ap (same_sizes f) (sym p') ∙ sym q)

  pub replace_misfit : false ≡ same_sizes f f' → Tells {A = Datum} (replaced_by at d v) (Err (Failed (record { kind = kind.Size; place = at })))
  replace_misfit q = report_told (fits_so false q)

  pub replace_done : (c : Datum) → true ≡ same_sizes f f' → c ≡ v → Tells (replaced_by at d v) (Ok c)
  replace_done c q e = told (fits_so true q ∙ ap Val (sym e))

pub replace_copied : (at : Place) (d v : Data) (f f' : Shape) (r : Result Data Stop) → f ≡ shape_of (held d) → f' ≡ shape_of (held v) → true ≡ same_sizes f f' → Copied v r → Tells (replaced_by at (held d) (held v)) (as_held r)
replace_copied at d v f f' _ p p' q (copied {c} e) = replace_done at (held d) (held v) f f' p p' (held c) q e
replace_copied at d v f f' _ p p' q not_copied = no_memory_told

pub ruleset replacing = (replace_misfit, replace_copied, no_memory_told)

-- ---- a row

module _ (at : Place) (d : Datum) (k : ℕ) (is : List Datum) (v : Datum) (ds ds' : List Datum) (q : ds ≡ rows_in d) where
  -- the row there is put in its place
  put_back : Out Datum → Out Datum
  put_back o = and_then o (λ e. Val (Array_datum (row_shape_in d) (datums (slice_set (rows_in d) k e))))

  row_there : (e : Datum) (r : Result Datum Stop) → slice_get ds k ≡ Some e → Tells (put_back (updated_at at is v e)) r → Updated_inside at d k is v r
  unfolding Updated_inside put_back
  row_there e r g t = subst (λ o. Tells (put_back (row_or_wrong o (updated_at at is v))) r) (sym g ∙ ap (λ ds. slice_get ds k) q) t

  pub inside_stops : (e : Datum) (s : Stop) → Taken_out k ds ds' (Ok e) → Tells (updated_at at is v e) (Err s) → Updated_inside at d k is v (Err s)
  unfolding put_back
  inside_stops e s (taken_out g h) t = row_there e (Err s) g (by_told s t)
    where
      by_told : (s : Stop) → Tells (updated_at at is v e) (Err s) → Tells (put_back (updated_at at is v e)) (Err s)
      by_told _ (report_told p) = report_told (ap put_back p)
      by_told _ no_memory_told = no_memory_told
      by_told _ (lost p) = lost (ap put_back p)

  pub inside_done : (e c w : Datum) (h : Shape) (es : List Datum) → Taken_out k ds ds' (Ok e) → Tells (updated_at at is v e) (Ok c) → Replaced k c ds' es (Ok tt) → h ≡ row_shape_in d → w ≡ Array_datum h (datums es) → Updated_inside at d k is v (Ok w)
  unfolding put_back
  inside_done e c w h es (taken_out g x) t (replaced y) z p = row_there e (Ok w) g (by_told t)
    where
      back : w ≡ Array_datum (row_shape_in d) (datums (slice_set (rows_in d) k c))
      back = p ∙ ap (λ h. Array_datum h (datums es)) z ∙ ap (λ l. Array_datum (row_shape_in d) (datums l)) (y ∙ x c ∙ ap (λ l. slice_set l k c) q)

      by_told : Tells (updated_at at is v e) (Ok c) → Tells (put_back (updated_at at is v e)) (Ok w)
      by_told (told m) = told (ap put_back m ∙ ap Val (sym back))
      by_told (lost m) = lost (ap put_back m)

pub inside_memory : (at : Place) (d : Datum) (k : ℕ) (is : List Datum) (v : Datum) → Updated_inside at d k is v (Err Memory)
unfolding Updated_inside
inside_memory at d k is v = no_memory_told

pub inside_unread : (at : Place) (d : Datum) (k : ℕ) (is : List Datum) (v : Datum) (ds ds' : List Datum) (e : Stop) → Taken_out k ds ds' (Err e) → Updated_inside at d k is v (Err e)
inside_unread at d k is v ds ds' _ not_taken_out = inside_memory at d k is v

pub ruleset inside = (inside_stops, inside_done, inside_memory, inside_unread)

-- ---- an index of several parts

first_held : (is : List Data) (x : Data) → (length is ≡ 0 → ⊥) → held_all is ≡ held (get_or is 0 x) ∷ held_all (take (length is - 1) (drop 1 is))
unfolding held_all
first_held [] x l = absurd (l refl)
first_held (i ∷ is) x l = ap (λ z. held i ∷ map held z) (sym (rest_of (i ∷ is) 1))

pub update_whole : (at : Place) (is : List Data) (v d : Datum) (r : Result Datum Stop) → length is ≡ 0 → Tells (replaced_by at d v) r → Tells (updated_at at (held_all is) v d) r
unfolding updated_at updated held_all
update_whole at [] v d r l t = t
update_whole at (i ∷ is) v d r l t = absurd (omega arith)

module _ (at : Place) (is : List Data) (x : Data) (l : length is ≡ 0 → ⊥) (v d : Datum) (z : Exact) (h : Exact_is (held (get_or is 0 x)) (Ok z)) (n : ℕ) (g : Counts d (Ok n)) where
  rest : List Datum
  rest = held_all (take (length is - 1) (drop 1 is))

  -- what is done once the first index is known
  stepped : ℤ → Out Datum
  stepped k = and_then (each_out exact_of rest) (λ zs. and_then (row_at at k (rows_in d)) (λ e. and_then (updated false at zs v e) (λ e'. Val (Array_datum (row_shape_in d) (datums (slice_set (rows_in d) (unsigned_abs k) e'))))))

  first_read : (k : ℤ) → exact_held z ≡ k → updated_at at (held_all is) v d ≡ stepped k
  unfolding updated_at updated rest stepped
  first_read k e = ap (λ is. updated_at at is v d) (first_held is x l) ∙ by_index h ∙ by_rest (each_out exact_of (held_all (take (length is - 1) (drop 1 is))))
    where
      there : Counts d (Ok n) → rows_of d ≡ Val (row_shape_in d, rows_in d)
      there (counts q p) = q

      by_index : Exact_is (held (get_or is 0 x)) (Ok z) → updated_at at (held (get_or is 0 x) ∷ held_all (take (length is - 1) (drop 1 is))) v d ≡ and_then (and_then (each_out exact_of (held_all (take (length is - 1) (drop 1 is)))) (λ zs. Val (exact_held z ∷ zs))) (λ zs. updated false at zs v d)
      by_index (exact_is q) = ap (λ o. and_then (and_then o (λ y. and_then (each_out exact_of (held_all (take (length is - 1) (drop 1 is)))) (λ ys. Val (y ∷ ys)))) (λ zs. updated false at zs v d)) q

      by_rest : (o : Out (List ℤ)) → and_then (and_then o (λ zs. Val (exact_held z ∷ zs))) (λ zs. updated false at zs v d)
          ≡ and_then o (λ zs. and_then (row_at at k (rows_in d)) (λ e. and_then (updated false at zs v e) (λ e'. Val (Array_datum (row_shape_in d) (datums (slice_set (rows_in d) (unsigned_abs k) e'))))))
      by_rest (Val zs) = ap (λ k. updated false at (k ∷ zs) v d) e
          ∙ ap (λ o. and_then o (λ r. and_then (row_at at k r.1) (λ e. and_then (updated false at zs v e) (λ e'. Val (Array_datum r.0 (datums (slice_set r.1 (unsigned_abs k) e'))))))) (there g)
      by_rest (Fail r) = refl
      by_rest Wrong = refl

  out_of : (k : ℤ) → exact_held z ≡ k → row_at at k (rows_in d) ≡ Fail (record { kind = kind.Bounds; place = at }) → Tells {A = Datum} (updated_at at (held_all is) v d) (Err (Failed (record { kind = kind.Bounds; place = at })))
  unfolding stepped
  out_of k e q = subst (λ o. Tells o (Err (Failed (record { kind = kind.Bounds; place = at })))) (sym (first_read k e)) (by_rest (each_out exact_of rest) (all_never rest))
    where
      by_rest : (o : Out (List ℤ)) → Never_fails o → Tells {A = Datum} (and_then o (λ zs. and_then (row_at at k (rows_in d)) (λ e. and_then (updated false at zs v e) (λ e'. Val (Array_datum (row_shape_in d) (datums (slice_set (rows_in d) (unsigned_abs k) e')))))))
          (Err (Failed (record { kind = kind.Bounds; place = at })))
      by_rest o (has_value zs y) = report_told (ap (λ o. and_then o (λ zs. and_then (row_at at k (rows_in d)) (λ e. and_then (updated false at zs v e) (λ e'. Val (Array_datum (row_shape_in d) (datums (slice_set (rows_in d) (unsigned_abs k) e'))))))) y
          ∙ ap (λ o. and_then o (λ e. and_then (updated false at zs v e) (λ e'. Val (Array_datum (row_shape_in d) (datums (slice_set (rows_in d) (unsigned_abs k) e')))))) q)
      by_rest o (is_wrong y) = lost (ap (λ o. and_then o (λ zs. and_then (row_at at k (rows_in d)) (λ e. and_then (updated false at zs v e) (λ e'. Val (Array_datum (row_shape_in d) (datums (slice_set (rows_in d) (unsigned_abs k) e'))))))) y)

  pub update_below : (k : ℕ) → z ≡ exact.Below k → Tells {A = Datum} (updated_at at (held_all is) v d) (Err (Failed (record { kind = kind.Bounds; place = at })))
  unfolding exact_held
  update_below k e = out_of (negsuc k) (ap exact_held e) refl

  module _ (k : ℕ) (e : z ≡ exact.Natural k) where
    pub update_beyond : n ≤ k → Tells {A = Datum} (updated_at at (held_all is) v d) (Err (Failed (record { kind = kind.Bounds; place = at })))
    unfolding exact_held
    update_beyond m = out_of (pos k) (ap exact_held e) (ap (or_bounds at) (none (rows_in d) k (omega (arith, long_there d n g))))
      where
        none : (xs : List Datum) (k : ℕ) → length xs ≤ k → slice_get xs k ≡ None
        none [] k l = refl
        none (y ∷ xs) zero l = absurd (omega arith)
        none (y ∷ xs) (suc k) l = none xs k (omega arith)

    -- the row there is put in its place
    row_put : k < n → updated_at at (held_all is) v d ≡ and_then (row_or_wrong (slice_get (rows_in d) k) (updated_at at rest v)) (λ e'. Val (Array_datum (row_shape_in d) (datums (slice_set (rows_in d) k e'))))
    unfolding exact_held stepped updated_at
    row_put m = first_read (pos k) (ap exact_held e) ∙ by_row (slice_get (rows_in d) k) (some (rows_in d) k (omega (arith, long_there d n g))) ∙ refl
      where
        some : (xs : List Datum) (k : ℕ) → k < length xs → slice_get xs k ≡ Some (get_or xs k d)
        some [] k l = absurd (omega arith)
        some (y ∷ xs) zero l = refl
        some (y ∷ xs) (suc k) l = some xs k (omega arith)

        by_rest : (e : Datum) (o : Out (List ℤ)) → and_then o (λ zs. and_then (updated false at zs v e) (λ e'. Val (Array_datum (row_shape_in d) (datums (slice_set (rows_in d) k e')))))
            ≡ and_then (and_then o (λ zs. updated false at zs v e)) (λ e'. Val (Array_datum (row_shape_in d) (datums (slice_set (rows_in d) k e'))))
        by_rest e (Val zs) = refl
        by_rest e (Fail r) = refl
        by_rest e Wrong = refl

        by_row : (o : Option Datum) → o ≡ Some (get_or (rows_in d) k d) → and_then (each_out exact_of rest) (λ zs. and_then (or_bounds at o) (λ e. and_then (updated false at zs v e) (λ e'. Val (Array_datum (row_shape_in d) (datums (slice_set (rows_in d) k e'))))))
            ≡ and_then (row_or_wrong o (λ e. and_then (each_out exact_of rest) (λ zs. updated false at zs v e))) (λ e'. Val (Array_datum (row_shape_in d) (datums (slice_set (rows_in d) k e'))))
        by_row None q = cc
        by_row (Some e) q = by_rest e (each_out exact_of rest)

    pub update_row : (r : Result Datum Stop) → k < n → Updated_inside at d k (held_all (take (length is - 1) (drop 1 is))) v r → Tells {A = Datum} (updated_at at (held_all is) v d) r
    unfolding Updated_inside rest
    update_row r m t = subst (λ o. Tells o r) (sym (row_put m)) t

pub ruleset updating = (update_whole, update_below, update_beyond, update_row, long_there, no_memory_told)

-- ---- the data, the index and the new one

apart : (vs : List Datum) (v : Datum) → last_apart (vs ++ v ∷ []) ≡ Val (vs, v)
apart [] v = refl
apart (u ∷ []) v = refl
apart (u ∷ w ∷ vs) v = ap (λ o. and_then o (λ r. Val (u ∷ r.0, r.1))) (apart (w ∷ vs) v)

last_held : (ds : List Data) (m : ℕ) (x : Data) → suc m ≡ length ds → held_all ds ≡ held_all (take m ds) ++ held (get_or ds m x) ∷ []
unfolding held_all
last_held [] m x e = absurd (omega arith)
last_held (d ∷ []) zero x e = refl
last_held (d ∷ c ∷ ds) zero x e = absurd (omega arith)
last_held (d ∷ ds) (suc m) x e = ap (λ z. held d ∷ z) (last_held ds m x (omega arith))

first_and_others : (d : Data) (others ds : List Data) → ds ≡ d ∷ others → held_all ds ≡ held d ∷ held_all others
unfolding held_all
first_and_others d others ds e = ap (map held) e

pub update_told : (at : Place) (ds rest : List Data) (d y : Data) (n : ℕ) (r : Result Datum Stop) → ds ≡ d ∷ rest → (length rest ≡ 0 → ⊥) → n ≡ length rest - 1 → Tells (updated_at at (held_all (take n rest)) (held (get_or rest n y)) (held d)) r → Tells (updated_of at (held_all ds)) r
update_told at ds rest d y n r e l q t =
    subst (λ o. Tells o r) (sym (ap (λ o. and_then o (λ r. updated_at at r.0 r.1 (held d))) (ap last_apart (last_held rest n y (several rest l q)) ∙ apart (held_all (take n rest)) (held (get_or rest n y)))) ∙ ap (updated_of at) (sym (first_and_others d rest ds e))) t
  where
    several : (rest : List Data) → (length rest ≡ 0 → ⊥) → n ≡ length rest - 1 → suc n ≡ length rest
    several [] l q = absurd (l refl)
    several (x ∷ rest) l q = omega arith

pub ruleset updates = (no_memory_told, update_told)
