-- Parts of arrays.
use Rattle.std.proofs.Common.{◌≡◌, ℕ, zero, suc, ◌+◌, ◌-◌, ◌*◌, ◌/◌, ◌<◌, ◌≤◌, List, [], ◌∷◌, ◌++◌, map, length, get_or, take, drop, slice_get, Some, None, Ok, Err, Result, Bool, true, false, refl, sym, ap, ◌∙◌, subst, arith, add-one, append_assoc}
use Rattle.std.specs.Prelude.{◌%◌, ℤ, pos, negsuc, ◌+ℤ◌, reverse, unsigned_abs, nat_le, nat_eq, not}
use Rattle.std.specs.Int.{int_rem_euclid}
use Rattle.std.proofs.lemmas.Int.{int_rem_euclid_is, ints}
use Rattle.std.proofs.Math.Nat.{mod-eq_of_lt, mod-lt}
use Rattle.std.proofs.lemmas.Bool.{le-leb, lt-leb, ne_eqb}
use Rattle.std.proofs.lemmas.List.{append-nil, take_all, length-drop, reverse-append}
use Rattle.fut_scalar.specs.declared.place.Place.{Place}
use Rattle.fut_scalar.specs.declared.report.FailKind.TheVariants as kind
use Rattle.fut_scalar.specs.declared.report.Report.{Report}
use Rattle.fut_flat.specs.declared.prim.Primitive.TheVariants as prim
use Rattle.fut_value.specs.Data.{Shape, Unmet_shape, Datum}
use Rattle.fut_meaning.specs.Arrays.{Rows, rows_of, exact_of, array_of, all_fresh, all_shared, checked, failure, or_bounds, shared}
use Rattle.fut_meaning.specs.Jobs.{Job, Done, done, job, around, all_but_last, last_of, first_of_rows, size_of}
use Rattle.fut_meaning.specs.Outcomes.{Out, Val, Fail, Wrong, and_then}
use Rattle.array_data.specs.declared.sizes.Exact.{Exact}
use Rattle.array_data.specs.declared.sizes.Exact.TheVariants as exact
use Rattle.array_data.specs.declared.stop.Stop.{Stop}
use Rattle.array_data.specs.declared.stop.Stop.TheVariants.{Failed, Stuck, Memory}
use Rattle.array_data.specs.Answers.{Tells, told, report_told, no_memory_told, lost, Counts, counts, no_array, Added, added, not_added, All_added, all_added, not_all_added, Row_is, row_is, no_memory_row, Exact_is, exact_is, no_integer, exact_held, Does, does, does_fail, does_memory, does_lost}
use Rattle.array_data.specs.Held.{rows_in, row_shape_in}
use Rattle.array_data.proofs.Jobbing.{rows_stop, rows_go, exact_stop, exact_go, rows_counted, done_fresh, done_shared, added_told, added_does, all_there, more_there, array_told}
use Rattle.array_data.proofs.RowsRead.{take_row, drop_row}

-- ---- rows pushed in order

get_drop : {A : Type 0} (xs : List A) (n i : ℕ) → slice_get (drop n xs) i ≡ slice_get xs (n + i)
get_drop xs zero i = let e : i ≡ zero + i = omega arith in ap (slice_get xs) e
get_drop [] (suc n) i = refl
get_drop (x ∷ xs) (suc n) i = let e : suc (n + i) ≡ suc n + i = omega arith in get_drop xs n i ∙ ap (slice_get (x ∷ xs)) e

unfoldable pub Part_pushed : List Datum → ℕ → ℕ → List Datum → List Datum → Type 0
Part_pushed xs from i ds0 ds = ds ≡ ds0 ++ take i (drop from xs)

module _ (d : Datum) (from : ℕ) (ds0 : List Datum) where
  pub part_start : Part_pushed (rows_in d) from 0 ds0 ds0
  unfolding Part_pushed
  part_start = sym (append-nil ds0)

  pub part_more : (i j : ℕ) (e : Datum) (ds ds' : List Datum) → Part_pushed (rows_in d) from i ds0 ds → j ≡ from + i → Row_is d j (Ok e) → Added e ds ds' (Ok tt) → Part_pushed (rows_in d) from (i + 1) ds0 ds'
  unfolding Part_pushed
  part_more i j e ds ds' h q (row_is g) (added a) =
      a ∙ ap (λ z. z ++ e ∷ []) h ∙ append_assoc ds0 (take i (drop from (rows_in d))) (e ∷ [])
      ∙ ap (λ z. ds0 ++ z) (sym (take_row (drop from (rows_in d)) i e (get_drop (rows_in d) from i ∙ ap (slice_get (rows_in d)) (sym q) ∙ g)))
      ∙ ap (λ z. ds0 ++ take z (drop from (rows_in d))) (sym (add-one i))

  pub part_end : (i many : ℕ) (ds : List Datum) → many ≤ i → i ≤ many → Part_pushed (rows_in d) from i ds0 ds → All_added (take many (drop from (rows_in d))) ds0 ds (Ok tt)
  unfolding Part_pushed
  part_end i many ds l m h = let q : i ≡ many = omega arith in all_added (h ∙ ap (λ z. ds0 ++ take z (drop from (rows_in d))) q)

pub ruleset pushing = (part_start, part_more, part_end, not_all_added)

-- ---- a part

pub part_done : (at : Place) (h k : Shape) (es ds ds' : List Datum) (r : Result Datum Stop) → h ≡ k → ds ≡ [] → All_added es ds ds' (Ok tt) → Tells (array_of at h ds') r → Tells (array_of at k es) r
part_done at h k es ds ds' r e q a t = array_told at h k ds' es r e (all_there es ds ds' q a) t

pub ruleset some_part = (part_done, added_told, no_memory_told)

whole_taken : {A : Type 0} (xs : List A) (n : ℕ) → n ≡ length xs → take n (drop 0 xs) ≡ xs
whole_taken xs n e = take_all n xs (omega arith)

module _ (at : Place) (n d : Datum) where
  pub take_no_size : (e : Stop) → Exact_is n (Err e) → Does (job false Unmet_shape prim.Take at (n ∷ d ∷ [])) (Err e)
  unfolding job
  take_no_size e h = exact_stop n _ e h

  pub take_no_rows : (z : Exact) (e : Stop) → Exact_is n (Ok z) → Counts d (Err e) → Does (job false Unmet_shape prim.Take at (n ∷ d ∷ [])) (Err e)
  unfolding job
  take_no_rows z e h k = exact_go n _ z (Err e) h (rows_stop d _ e k)

  pub take_below : (z : Exact) (c k : ℕ) → Exact_is n (Ok z) → Counts d (Ok c) → z ≡ exact.Below k → Does (job false Unmet_shape prim.Take at (n ∷ d ∷ [])) (Err (Failed (record { kind = kind.Bounds; place = at })))
  unfolding job exact_held
  take_below z c k h g e = exact_go n _ (exact.Below k) _ (subst (λ z. Exact_is n (Ok z)) e h) (rows_go d _ c _ g (does_fail refl))

  pub take_beyond : (z : Exact) (c k : ℕ) → Exact_is n (Ok z) → Counts d (Ok c) → z ≡ exact.Natural k → c < k → Does (job false Unmet_shape prim.Take at (n ∷ d ∷ [])) (Err (Failed (record { kind = kind.Bounds; place = at })))
  unfolding job exact_held
  take_beyond z c k h g e l = exact_go n _ (exact.Natural k) _ (subst (λ z. Exact_is n (Ok z)) e h) (rows_go d _ c _ g
      (does_fail (ap (λ b. checked b kind.Bounds at (done (all_shared (array_of at (row_shape_in d) (take k (rows_in d)))))) (lt-leb k (length (rows_in d)) (subst (λ z. z < k) (rows_counted d c g) l)))))

  pub take_done : (z : Exact) (c k : ℕ) (r : Result Datum Stop) → Exact_is n (Ok z) → Counts d (Ok c) → z ≡ exact.Natural k → k ≤ c → Tells (array_of at (row_shape_in d) (take k (drop 0 (rows_in d)))) r → Does (job false Unmet_shape prim.Take at (n ∷ d ∷ [])) r
  unfolding job exact_held
  take_done z c k r h g e l t = exact_go n _ (exact.Natural k) r (subst (λ z. Exact_is n (Ok z)) e h) (rows_go d _ c r g
      (subst (λ b. Does (checked b kind.Bounds at (done (all_shared (array_of at (row_shape_in d) (take k (rows_in d)))))) r) (sym (le-leb k (length (rows_in d)) (subst (λ z. k ≤ z) (rows_counted d c g) l)))
      (done_shared (array_of at (row_shape_in d) (take k (rows_in d))) r t)))

  pub drop_no_size : (e : Stop) → Exact_is n (Err e) → Does (job false Unmet_shape prim.Drop at (n ∷ d ∷ [])) (Err e)
  unfolding job
  drop_no_size e h = exact_stop n _ e h

  pub drop_no_rows : (z : Exact) (e : Stop) → Exact_is n (Ok z) → Counts d (Err e) → Does (job false Unmet_shape prim.Drop at (n ∷ d ∷ [])) (Err e)
  unfolding job
  drop_no_rows z e h k = exact_go n _ z (Err e) h (rows_stop d _ e k)

  pub drop_below : (z : Exact) (c k : ℕ) → Exact_is n (Ok z) → Counts d (Ok c) → z ≡ exact.Below k → Does (job false Unmet_shape prim.Drop at (n ∷ d ∷ [])) (Err (Failed (record { kind = kind.Bounds; place = at })))
  unfolding job exact_held
  drop_below z c k h g e = exact_go n _ (exact.Below k) _ (subst (λ z. Exact_is n (Ok z)) e h) (rows_go d _ c _ g (does_fail refl))

  pub drop_beyond : (z : Exact) (c k : ℕ) → Exact_is n (Ok z) → Counts d (Ok c) → z ≡ exact.Natural k → c < k → Does (job false Unmet_shape prim.Drop at (n ∷ d ∷ [])) (Err (Failed (record { kind = kind.Bounds; place = at })))
  unfolding job exact_held
  drop_beyond z c k h g e l = exact_go n _ (exact.Natural k) _ (subst (λ z. Exact_is n (Ok z)) e h) (rows_go d _ c _ g
      (does_fail (ap (λ b. checked b kind.Bounds at (done (all_shared (array_of at (row_shape_in d) (drop k (rows_in d)))))) (lt-leb k (length (rows_in d)) (subst (λ z. z < k) (rows_counted d c g) l)))))

  pub drop_done : (z : Exact) (c k m : ℕ) (r : Result Datum Stop) → Exact_is n (Ok z) → Counts d (Ok c) → z ≡ exact.Natural k → k ≤ c → m ≡ c - k → Tells (array_of at (row_shape_in d) (take m (drop k (rows_in d)))) r → Does (job false Unmet_shape prim.Drop at (n ∷ d ∷ [])) r
  unfolding job exact_held
  drop_done z c k m r h g e l q t = exact_go n _ (exact.Natural k) r (subst (λ z. Exact_is n (Ok z)) e h) (rows_go d _ c r g
      (subst (λ b. Does (checked b kind.Bounds at (done (all_shared (array_of at (row_shape_in d) (drop k (rows_in d)))))) r) (sym (le-leb k (length (rows_in d)) (subst (λ z. k ≤ z) (rows_counted d c g) l)))
      (done_shared (array_of at (row_shape_in d) (drop k (rows_in d))) r
      (subst (λ z. Tells (array_of at (row_shape_in d) z) r) (take_all m (drop k (rows_in d)) (omega (arith, length-drop k (rows_in d), rows_counted d c g))) t))))

  -- within the rows there are
  pub part_in : (c k : ℕ) → Counts d (Ok c) → k ≤ c → 0 + k ≤ length (rows_in d)
  part_in c k g l = omega (arith, rows_counted d c g)

pub part_within : (d : Datum) (c k m : ℕ) → Counts d (Ok c) → k + m ≤ c → k + m ≤ length (rows_in d)
part_within d c k m g l = omega (arith, rows_counted d c g)

pub ruleset takings = (take_no_size, take_no_rows, take_below, take_beyond, take_done, part_within)

pub ruleset droppings = (drop_no_size, drop_no_rows, drop_below, drop_beyond, drop_done, part_within)

-- ---- the first and the last

all_but_last_is : (xs : List Datum) (m : ℕ) → length xs ≡ suc m → take m (drop 0 xs) ≡ all_but_last xs
all_but_last_is [] m e = absurd (omega arith)
all_but_last_is (x ∷ []) zero e = refl
all_but_last_is (x ∷ []) (suc m) e = absurd (omega arith)
all_but_last_is (x ∷ y ∷ xs) zero e = absurd (omega arith)
all_but_last_is (x ∷ y ∷ xs) (suc m) e = ap (λ z. x ∷ z) (all_but_last_is (y ∷ xs) m (omega arith))

last_is : (xs : List Datum) (m : ℕ) → length xs ≡ suc m → slice_get xs m ≡ last_of xs
last_is [] m e = absurd (omega arith)
last_is (x ∷ []) zero e = refl
last_is (x ∷ []) (suc m) e = absurd (omega arith)
last_is (x ∷ y ∷ xs) zero e = absurd (omega arith)
last_is (x ∷ y ∷ xs) (suc m) e = last_is (y ∷ xs) m (omega arith)

first_is : (xs : List Datum) → slice_get xs 0 ≡ first_of_rows xs
first_is [] = refl
first_is (x ∷ xs) = refl

no_first : (xs : List Datum) → length xs ≡ 0 → first_of_rows xs ≡ None
no_first [] e = refl
no_first (x ∷ xs) e = absurd (omega arith)

no_last : (xs : List Datum) → length xs ≡ 0 → last_of xs ≡ None
no_last [] e = refl
no_last (x ∷ xs) e = absurd (omega arith)

not_none : (n : ℕ) → (n ≡ 0 → ⊥) → not (nat_eq n 0) ≡ true
not_none n h = ap not (ne_eqb n 0 h)

module _ (at : Place) (d : Datum) where
  pub init_no_rows : (e : Stop) → Counts d (Err e) → Does (job false Unmet_shape prim.Init at (d ∷ [])) (Err e)
  unfolding job
  init_no_rows e h = rows_stop d _ e h

  pub tail_no_rows : (e : Stop) → Counts d (Err e) → Does (job false Unmet_shape prim.Tail at (d ∷ [])) (Err e)
  unfolding job
  tail_no_rows e h = rows_stop d _ e h

  pub head_no_rows : (e : Stop) → Counts d (Err e) → Does (job false Unmet_shape prim.Head at (d ∷ [])) (Err e)
  unfolding job
  head_no_rows e h = rows_stop d _ e h

  pub last_no_rows : (e : Stop) → Counts d (Err e) → Does (job false Unmet_shape prim.Last at (d ∷ [])) (Err e)
  unfolding job
  last_no_rows e h = rows_stop d _ e h

  module _ (c : ℕ) (g : Counts d (Ok c)) where
    module _ (e : c ≡ 0) where
      none_there : length (rows_in d) ≡ 0
      none_there = sym (rows_counted d c g) ∙ e

      pub init_none : Does (job false Unmet_shape prim.Init at (d ∷ [])) (Err (Failed (record { kind = kind.Bounds; place = at })))
      unfolding job
      init_none = rows_go d _ c _ g (does_fail (ap (λ z. checked (not (nat_eq z 0)) kind.Bounds at (done (all_shared (array_of at (row_shape_in d) (all_but_last (rows_in d)))))) none_there))

      pub tail_none : Does (job false Unmet_shape prim.Tail at (d ∷ [])) (Err (Failed (record { kind = kind.Bounds; place = at })))
      unfolding job
      tail_none = rows_go d _ c _ g (does_fail (ap (λ z. checked (not (nat_eq z 0)) kind.Bounds at (done (all_shared (array_of at (row_shape_in d) (drop 1 (rows_in d)))))) none_there))

      pub head_none : Does (job false Unmet_shape prim.Head at (d ∷ [])) (Err (Failed (record { kind = kind.Bounds; place = at })))
      unfolding job
      head_none = rows_go d _ c _ g (does_fail (ap (λ z. done (and_then (or_bounds at z) shared)) (no_first (rows_in d) none_there)))

      pub last_none : Does (job false Unmet_shape prim.Last at (d ∷ [])) (Err (Failed (record { kind = kind.Bounds; place = at })))
      unfolding job
      last_none = rows_go d _ c _ g (does_fail (ap (λ z. done (and_then (or_bounds at z) shared)) (no_last (rows_in d) none_there)))

    module _ (m : ℕ) (e : (c ≡ 0 → ⊥)) (q : m ≡ c - 1) (r : Result Datum Stop) where
      one_more : length (rows_in d) ≡ suc m
      one_more = let y : c ≡ suc m = omega (arith, e) in sym (rows_counted d c g) ∙ y

      some_there : not (nat_eq (length (rows_in d)) 0) ≡ true
      some_there = not_none (length (rows_in d)) (λ z. e (rows_counted d c g ∙ z))

      pub init_done : Tells (array_of at (row_shape_in d) (take m (drop 0 (rows_in d)))) r → Does (job false Unmet_shape prim.Init at (d ∷ [])) r
      unfolding job
      init_done t = rows_go d _ c r g (subst (λ b. Does (checked b kind.Bounds at (done (all_shared (array_of at (row_shape_in d) (all_but_last (rows_in d)))))) r) (sym some_there)
          (done_shared (array_of at (row_shape_in d) (all_but_last (rows_in d))) r (subst (λ z. Tells (array_of at (row_shape_in d) z) r) (all_but_last_is (rows_in d) m one_more) t)))

      pub tail_done : Tells (array_of at (row_shape_in d) (take m (drop 1 (rows_in d)))) r → Does (job false Unmet_shape prim.Tail at (d ∷ [])) r
      unfolding job
      tail_done t = rows_go d _ c r g (subst (λ b. Does (checked b kind.Bounds at (done (all_shared (array_of at (row_shape_in d) (drop 1 (rows_in d)))))) r) (sym some_there)
          (done_shared (array_of at (row_shape_in d) (drop 1 (rows_in d))) r (subst (λ z. Tells (array_of at (row_shape_in d) z) r) (take_all m (drop 1 (rows_in d)) (omega (arith, length-drop 1 (rows_in d), one_more))) t)))

    last_row : (v : Datum) → last_of (rows_in d) ≡ Some v → Does (job false Unmet_shape prim.Last at (d ∷ [])) (Ok v)
    unfolding job
    last_row v k = rows_go d _ c (Ok v) g (does {c = 0} {d = v} (ap (λ z. done (and_then (or_bounds at z) shared)) k))

    head_row : (v : Datum) → first_of_rows (rows_in d) ≡ Some v → Does (job false Unmet_shape prim.Head at (d ∷ [])) (Ok v)
    unfolding job
    head_row v k = rows_go d _ c (Ok v) g (does {c = 0} {d = v} (ap (λ z. done (and_then (or_bounds at z) shared)) k))

    pub head_done : (r : Result Datum Stop) → Row_is d 0 r → Does (job false Unmet_shape prim.Head at (d ∷ [])) r
    head_done _ (row_is {e} k) = head_row e (sym (first_is (rows_in d)) ∙ k)
    head_done _ no_memory_row = does_memory

module _ (at : Place) (d : Datum) (c m : ℕ) (g : Counts d (Ok c)) (x : (c ≡ 0 → ⊥)) (q : m ≡ c - 1) where
  pub last_done : (r : Result Datum Stop) → Row_is d m r → Does (job false Unmet_shape prim.Last at (d ∷ [])) r
  last_done _ (row_is {e} k) = let y : c ≡ suc m = omega (arith, x) in last_row at d c g e (sym (last_is (rows_in d) m (sym (rows_counted d c g) ∙ y)) ∙ k)
  last_done _ no_memory_row = does_memory

pub ruleset ends = (init_no_rows, tail_no_rows, head_no_rows, last_no_rows, init_none, tail_none, head_none, last_none, init_done, tail_done, head_done, last_done, part_within)

-- ---- rows counted around

pub remainder_of : (e : Exact) (n c r : ℕ) → 0 < c → e ≡ exact.Natural n → r ≡ n % c → int_rem_euclid (exact_held e) (pos c) ≡ pos r
unfolding exact_held
remainder_of e n c r l q p = ap (λ z. int_rem_euclid (exact_held z) (pos c)) q ∙ int_rem_euclid_is (pos n) (pos c) c 0 n l refl (let y : n + 0 * c ≡ n = omega arith in ap pos y) ∙ ap pos (sym p)

below_shifted : (n k m : ℕ) → suc n + m ≡ k → negsuc n +ℤ pos k ≡ pos m
below_shifted n k m e = omega (arith, ints)

pub remainder_below : (e : Exact) (n c r : ℕ) → 0 < c → e ≡ exact.Below n → r ≡ (c - 1) - n % c → int_rem_euclid (exact_held e) (pos c) ≡ pos r
unfolding exact_held
remainder_below e n c r l q p =
    let s : n % c < c = mod-lt n l in
    let m : n ≡ c * (n / c) + n % c = omega arith in
    let t : (n / c + 1) * c ≡ c * (n / c) + c = omega arith in
    ap (λ z. int_rem_euclid (exact_held z) (pos c)) q ∙ int_rem_euclid_is (negsuc n) (pos c) c (n / c + 1) r l refl (below_shifted n ((n / c + 1) * c) r (omega arith)) ∙ ap pos (mod-eq_of_lt (omega arith))

pub remainder_less : (n c : ℕ) → 0 < c → n % c < c
remainder_less n c l = mod-lt n l

pub ruleset remainders = (remainder_of, remainder_below, remainder_less)

around_is : (z : ℤ) (xs : List Datum) (k : ℕ) → int_rem_euclid z (pos (length xs)) ≡ pos k → around z xs ≡ drop k xs ++ take k xs
around_is z xs k e = ap (λ w. drop (unsigned_abs w) xs ++ take (unsigned_abs w) xs) e

nothing_left : (k : ℕ) → drop k [] ++ take k [] ≡ ◌++◌ {A = Datum} [] []
nothing_left zero = refl
nothing_left (suc k) = refl

around_none : (z : ℤ) (xs : List Datum) → length xs ≡ 0 → around z xs ≡ []
around_none z [] e = nothing_left (unsigned_abs (int_rem_euclid z (pos 0)))
around_none z (x ∷ xs) e = absurd (omega arith)

module _ (d : Datum) (z : Exact) (n : ℕ) (g : n ≡ length (rows_in d)) (ds : List Datum) where
  pub turned_none : n ≡ 0 → All_added (around (exact_held z) (rows_in d)) ds ds (Ok tt)
  turned_none e = all_added (sym (append-nil ds) ∙ ap (λ w. ds ++ w) (sym (around_none (exact_held z) (rows_in d) (sym g ∙ e))))

  pub turned_stop : (k m : ℕ) (es ds' : List Datum) (e : Stop) → All_added es ds ds' (Err e) → All_added (around (exact_held z) (rows_in d)) ds ds' (Err e)
  turned_stop k m es ds' _ not_all_added = not_all_added

  pub turned_done : (k m : ℕ) (ds' ds'' : List Datum) (r : Result (Unit {0}) Stop) → int_rem_euclid (exact_held z) (pos n) ≡ pos k → k < n → m ≡ n - k → All_added (take m (drop k (rows_in d))) ds ds' (Ok tt) → All_added (take k (drop 0 (rows_in d))) ds' ds'' r → All_added (around (exact_held z) (rows_in d)) ds ds'' r
  turned_done k m ds' ds'' _ e l q (all_added a) (all_added b) =
      all_added (b ∙ ap (λ w. w ++ take k (rows_in d)) a ∙ append_assoc ds (take m (drop k (rows_in d))) (take k (rows_in d))
      ∙ ap (λ w. ds ++ (w ++ take k (rows_in d))) (take_all m (drop k (rows_in d)) (omega (arith, length-drop k (rows_in d), g)))
      ∙ ap (λ w. ds ++ w) (sym (around_is (exact_held z) (rows_in d) k (ap (λ w. int_rem_euclid (exact_held z) (pos w)) (sym g) ∙ e))))
  turned_done k m ds' ds'' _ e l q (all_added a) not_all_added = not_all_added

pub rows_within : (xs : List Datum) (n k m : ℕ) → n ≡ length xs → k + m ≤ n → k + m ≤ length xs
rows_within xs n k m e l = omega arith

pub ruleset turning = (turned_none, turned_stop, turned_done, rows_within)

module _ (at : Place) (n d : Datum) where
  pub rotate_no_size : (e : Stop) → Exact_is n (Err e) → Does (job false Unmet_shape prim.Rotate at (n ∷ d ∷ [])) (Err e)
  unfolding job
  rotate_no_size e h = exact_stop n _ e h

  pub rotate_no_rows : (z : Exact) (e : Stop) → Exact_is n (Ok z) → Counts d (Err e) → Does (job false Unmet_shape prim.Rotate at (n ∷ d ∷ [])) (Err e)
  unfolding job
  rotate_no_rows z e h k = exact_go n _ z (Err e) h (rows_stop d _ e k)

  pub rotate_done : (z : Exact) (c : ℕ) (h : Shape) (ds ds' : List Datum) (r : Result Datum Stop) → Exact_is n (Ok z) → Counts d (Ok c) → h ≡ row_shape_in d → ds ≡ [] → All_added (around (exact_held z) (rows_in d)) ds ds' (Ok tt) → Tells (array_of at h ds') r → Does (job false Unmet_shape prim.Rotate at (n ∷ d ∷ [])) r
  unfolding job
  rotate_done z c h ds ds' r x g q p a t = exact_go n _ z r x (rows_go d _ c r g (done_fresh (array_of at (row_shape_in d) (around (exact_held z) (rows_in d))) r (array_told at h (row_shape_in d) ds' (around (exact_held z) (rows_in d)) r q (all_there (around (exact_held z) (rows_in d)) ds ds' p a) t)))

pub ruleset turns = (rotate_no_size, rotate_no_rows, rotate_done, added_does, does_memory, rows_counted)

-- ---- rows backwards

unfoldable pub Back_pushed : List Datum → ℕ → ℕ → List Datum → List Datum → Type 0
Back_pushed xs n i ds0 ds = ds ≡ ds0 ++ reverse (drop (n - i) xs)

pub drop_all : {A : Type 0} (xs : List A) (n : ℕ) → n ≡ length xs → drop n xs ≡ []
drop_all [] zero e = refl
drop_all [] (suc n) e = refl
drop_all (x ∷ xs) zero e = absurd (omega arith)
drop_all (x ∷ xs) (suc n) e = drop_all xs n (omega arith)

module _ (d : Datum) (n : ℕ) (g : n ≡ length (rows_in d)) (ds0 : List Datum) where
  pub back_start : Back_pushed (rows_in d) n 0 ds0 ds0
  unfolding Back_pushed
  back_start = sym (append-nil ds0) ∙ ap (λ z. ds0 ++ reverse z) (sym (drop_all (rows_in d) (n - 0) (omega arith)))

  pub back_more : (i j : ℕ) (e : Datum) (ds ds' : List Datum) → i < n → j ≡ (n - 1) - i → Back_pushed (rows_in d) n i ds0 ds → Row_is d j (Ok e) → Added e ds ds' (Ok tt) → Back_pushed (rows_in d) n (i + 1) ds0 ds'
  unfolding Back_pushed
  back_more i j e ds ds' l q h (row_is k) (added a) =
      let x : n - i ≡ suc j = omega arith in
      let y : j ≡ n - (i + 1) = omega arith in
      a ∙ ap (λ z. z ++ e ∷ []) h ∙ append_assoc ds0 (reverse (drop (n - i) (rows_in d))) (e ∷ [])
      ∙ ap (λ z. ds0 ++ (reverse (drop z (rows_in d)) ++ e ∷ [])) x
      ∙ ap (λ z. ds0 ++ z) (sym (reverse-append (e ∷ []) (drop (suc j) (rows_in d))) ∙ ap reverse (sym (drop_row (rows_in d) j e k)))
      ∙ ap (λ z. ds0 ++ reverse (drop z (rows_in d))) y

  pub back_end : (i : ℕ) (ds : List Datum) → n ≤ i → Back_pushed (rows_in d) n i ds0 ds → All_added (reverse (rows_in d)) ds0 ds (Ok tt)
  unfolding Back_pushed
  back_end i ds l h = let q : n - i ≡ 0 = omega arith in all_added (h ∙ ap (λ z. ds0 ++ reverse (drop z (rows_in d))) q)

pub ruleset backwards = (back_start, back_more, back_end, not_all_added)

module _ (at : Place) (d : Datum) where
  pub reverse_no_rows : (e : Stop) → Counts d (Err e) → Does (job false Unmet_shape prim.Reverse at (d ∷ [])) (Err e)
  unfolding job
  reverse_no_rows e h = rows_stop d _ e h

  pub reverse_done : (c : ℕ) (r : Result Datum Stop) → Counts d (Ok c) → Tells (array_of at (row_shape_in d) (reverse (rows_in d))) r → Does (job false Unmet_shape prim.Reverse at (d ∷ [])) r
  unfolding job
  reverse_done c r g t = rows_go d _ c r g (done_fresh (array_of at (row_shape_in d) (reverse (rows_in d))) r t)

pub ruleset turned_back = (reverse_no_rows, reverse_done, rows_counted)
