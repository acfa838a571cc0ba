-- Rows that are written at places.
use Rattle.std.proofs.Common.{◌≡◌, ℕ, zero, suc, ◌+◌, ◌-◌, ◌<◌, ◌≤◌, List, [], ◌∷◌, ◌++◌, map, length, get_or, take, drop, slice_get, Option, Some, None, Ok, Err, Result, Bool, true, false, cond, nat_eq, nat_lt, refl, sym, ap, ◌∙◌, subst, arith, add-one, inl, inr, lt-ltb, le-ltb}
use Rattle.std.specs.Prelude.{ℤ, pos, negsuc, slice_set, replicate, ◌⊎◌, ◌||◌}
use Rattle.std.proofs.lemmas.Bool.{ne_eqb, eq-eqb}
use Rattle.std.proofs.lemmas.List.{append-nil, take_all}
use Rattle.fut_scalar.specs.declared.place.Place.{Place}
use Rattle.fut_scalar.specs.declared.report.FailKind.TheVariants as kind
use Rattle.fut_flat.specs.declared.prim.Primitive.{Primitive}
use Rattle.fut_flat.specs.declared.prim.Primitive.TheVariants as prim
use Rattle.fut_value.specs.Data.{Shape, Datum, Array_datum, datums, same_sizes}
use Rattle.fut_meaning.specs.Arrays.{Rows, each_out, exact_of, rows_of, fitting}
use Rattle.fut_meaning.specs.Jobs.{Job, job, Choose_each, Reduce_each, in_place_of, Is_one_of, on_rows, or_old, places, writes, and_write, written_at, written, scattered, shown_to_agree}
use Rattle.fut_meaning.specs.Outcomes.{Out, Val, Fail, Wrong, and_then}
use Rattle.array_data.specs.declared.sizes.Exact.{Exact}
use Rattle.array_data.specs.declared.sizes.Exact.TheVariants as exact
use Rattle.array_data.specs.declared.stop.Stop.{Stop}
use Rattle.array_data.specs.declared.stop.Stop.TheVariants.{Failed, Memory}
use Rattle.array_data.specs.Answers.{Added, added, not_added, Counts, counts, no_array, Row_is, row_is, no_memory_row, Exact_is, exact_is, no_integer, exact_held}
use Rattle.array_data.specs.Held.{held, held_all, rows_in, row_shape_in}
use Rattle.array_primitives.specs.Plans.{and_old, Planned, Plans, plan_scatter, plan_combine, plan_fails, plan_memory, plan_lost}
use Rattle.array_data.specs.declared.data.Data.{Data}
use Rattle.array_data.specs.declared.data.Data.TheVariants as hold
use Rattle.fut_scalar.specs.declared.scalar.Scalar.TheVariants as scalar
use Rattle.array_primitives.specs.declared.jobs.Plan.TheVariants as plan
use Rattle.array_data.specs.Changes.{Replaced, replaced}
use Rattle.array_primitives.specs.Writes.{All_chosen, none_chosen, one_chosen, in_array, Scatters, scatters, scatter_fails, scatter_memory, scatter_lost, written_to, all_written, Write_counts, write_counts, writes_fail, writes_memory, Index_at, Put_at, put_there, put_nowhere, Rows_chosen}
use Rattle.array_primitives.proofs.Asking.{Never_fails, has_value, is_wrong, all_never}
use Rattle.array_primitives.proofs.Writing.{get_set, get_other, set_long, written_there, written_elsewhere, no_write, one_write, writes_more}
use Rattle.array_primitives.proofs.Planning.{three_held, four_held, no_plan}

-- the integers are as many as what they are read of
pub read_long : (is : List Datum) (zs : List ℤ) → each_out exact_of is ≡ Val zs → length zs ≡ length is
read_long [] zs e = let q : [] ≡ zs = cc in ap length (sym q)
read_long (i ∷ is) zs e = by_read (exact_of i) (each_out exact_of is) (read_long is) e
  where
    by_read : (o : Out ℤ) (p : Out (List ℤ)) → ((ws : List ℤ) → p ≡ Val ws → length ws ≡ length is) → and_then o (λ z. and_then p (λ ws. Val (z ∷ ws))) ≡ Val zs → length zs ≡ suc (length is)
    by_read (Val z) (Val ws) h e = let q : z ∷ ws ≡ zs = cc in ap length (sym q) ∙ ap suc (h ws refl)
    by_read (Val z) (Fail r) h e = cc
    by_read (Val z) Wrong h e = cc
    by_read (Fail r) p h e = cc
    by_read Wrong p h e = cc

read_there : (is : List Datum) (zs : List ℤ) (j : ℕ) (d : Datum) (z : ℤ) → each_out exact_of is ≡ Val zs → slice_get is j ≡ Some d → exact_of d ≡ Val z → slice_get zs j ≡ Some z
read_there [] zs j d z e g x = cc
read_there (i ∷ is) zs j d z e g x = by_read (exact_of i) (each_out exact_of is) (λ ws k f h. read_there is ws k d z f h x) refl e j g
  where
    by_read : (o : Out ℤ) (p : Out (List ℤ)) → ((ws : List ℤ) (k : ℕ) → p ≡ Val ws → slice_get is k ≡ Some d → slice_get ws k ≡ Some z) → exact_of i ≡ o → and_then o (λ z. and_then p (λ ws. Val (z ∷ ws))) ≡ Val zs → (j : ℕ) → slice_get (i ∷ is) j ≡ Some d → slice_get zs j ≡ Some z
    by_read (Val y) (Val ws) h a e zero g = let q : y ∷ ws ≡ zs = cc in let w : y ≡ z = cc in ap (λ zs. slice_get zs 0) (sym q) ∙ ap Some w
    by_read (Val y) (Val ws) h a e (suc k) g = let q : y ∷ ws ≡ zs = cc in ap (λ zs. slice_get zs (suc k)) (sym q) ∙ h ws k refl g
    by_read (Val y) (Fail r) h a e j g = cc
    by_read (Val y) Wrong h a e j g = cc
    by_read (Fail r) p h a e j g = cc
    by_read Wrong p h a e j g = cc

pub index_read : (is : Datum) (j : ℕ) (d : Datum) (z : Exact) → Row_is is j (Ok d) → Exact_is d (Ok z) → Index_at (rows_in is) j z
unfolding Index_at
index_read is j d z (row_is p) (exact_is q) zs y = read_there (rows_in is) zs j d (exact_held z) y p q

pub ruleset indexing = (index_read)

pub same_or_not : (a b : ℕ) → (a ≡ b) ⊎ (a ≡ b → ⊥)
same_or_not zero zero = inl refl
same_or_not zero (suc b) = inr (λ e. absurd (omega arith))
same_or_not (suc a) zero = inr (λ e. absurd (omega arith))
same_or_not (suc a) (suc b) = by_rest (same_or_not a b)
  where
    by_rest : (a ≡ b) ⊎ (a ≡ b → ⊥) → (suc a ≡ suc b) ⊎ (suc a ≡ suc b → ⊥)
    by_rest (inl e) = inl (ap suc e)
    by_rest (inr x) = inr (λ e. x (omega arith))

-- ---- one row

module _ (x : Exact) (d : Datum) (ds ds' : List Datum) where
  pub put_below : (k : ℕ) → x ≡ exact.Below k → ds' ≡ ds → Put_at (exact_held x) d ds ds'
  unfolding exact_held
  put_below k e q = put_nowhere (ap (λ x. and_write (length ds) (exact_held x) d []) e) q

  pub put_past : (k n : ℕ) → x ≡ exact.Natural k → n ≡ length ds → n ≤ k → ds' ≡ ds → Put_at (exact_held x) d ds ds'
  unfolding exact_held
  put_past k n e l m q = put_nowhere (ap (λ x. and_write (length ds) (exact_held x) d []) e ∙ no_write (length ds) k d (omega arith)) q

  pub put_within : (k n : ℕ) → x ≡ exact.Natural k → n ≡ length ds → k < n → Replaced k d ds ds' (Ok tt) → Put_at (exact_held x) d ds ds'
  unfolding exact_held
  put_within k n e l m (replaced q) = put_there k (ap exact_held e) (omega arith) q

pub ruleset putting = (put_below, put_past, put_within)

-- ---- all rows

-- each row is one that was written at its place, or the old one
pub record Chosen (old : List Datum) (ws : List (ℕ × Datum)) (cells : List Datum) : Type 0 where
  pub long : length cells ≡ length old
  pub each : (k : ℕ) (o a : Datum) → slice_get old k ≡ Some o → slice_get cells k ≡ Some a → Is_one_of (or_old o (written_at k ws)) a

last_is_one : (o v : Datum) (xs : List Datum) → Is_one_of (or_old o (xs ++ v ∷ [])) v
last_is_one o v [] = inl refl
last_is_one o v (x ∷ xs) = inr (at_end xs)
  where
    at_end : (xs : List Datum) → Is_one_of (xs ++ v ∷ []) v
    at_end [] = inl refl
    at_end (x ∷ xs) = inr (at_end xs)

chosen_put : (old : List Datum) (ws : List (ℕ × Datum)) (cells cells' : List Datum) (z : ℤ) (v : Datum) → Chosen old ws cells → Put_at z v cells cells' → Chosen old (ws ++ and_write (length old) z v []) cells'
chosen_put old ws cells cells' z v h (put_nowhere e q) =
    subst (λ u. Chosen old (ws ++ u) cells') (sym (ap (λ n. and_write n z v []) (sym h.long) ∙ e)) (subst (λ u. Chosen old u cells') (sym (append-nil ws)) (subst (Chosen old ws) (sym q) h))
chosen_put old ws cells cells' z v h (put_there k p l q) =
    subst (λ u. Chosen old (ws ++ u) cells') (sym (ap (λ z. and_write (length old) z v []) p ∙ one_write (length old) k v (omega (arith, h.long)))) (subst (λ cs. Chosen old (ws ++ (k, v) ∷ []) cs) (sym q)
    (record { long = set_long cells k v ∙ h.long; each = λ i o a x y. by_place i o a x y (same_or_not k i) }))
  where
    by_place : (i : ℕ) (o a : Datum) → slice_get old i ≡ Some o → slice_get (slice_set cells k v) i ≡ Some a → (k ≡ i) ⊎ (k ≡ i → ⊥) → Is_one_of (or_old o (written_at i (ws ++ (k, v) ∷ []))) a
    by_place i o a x y (inl e) =
        let t : slice_get (slice_set cells k v) k ≡ Some v = get_set cells k v l in
        let t' : slice_get (slice_set cells k v) k ≡ Some a = ap (slice_get (slice_set cells k v)) e ∙ y in
        let j : v ≡ a = cc in
        subst (λ a. Is_one_of (or_old o (written_at i (ws ++ (k, v) ∷ []))) a) j (subst (λ xs. Is_one_of (or_old o xs) v) (sym (written_there k i v ws e)) (last_is_one o v (written_at i ws)))
    by_place i o a x y (inr e) = subst (λ xs. Is_one_of (or_old o xs) a) (sym (written_elsewhere k i v ws e)) (h.each i o a x (sym (get_other cells k i v e) ∙ y))

all_chosen : (ws : List (ℕ × Datum)) (old cells : List Datum) (s : ℕ) → length cells ≡ length old
    → ((k : ℕ) (o a : Datum) → slice_get old k ≡ Some o → slice_get cells k ≡ Some a → Is_one_of (or_old o (written_at (s + k) ws)) a) → All_chosen (places or_old s old ws) cells
all_chosen ws [] [] s l h = none_chosen
all_chosen ws [] (c ∷ cells) s l h = absurd (omega arith)
all_chosen ws (o ∷ old) [] s l h = absurd (omega arith)
all_chosen ws (o ∷ old) (c ∷ cells) s l h =
    let p : s + 0 ≡ s = omega arith in
    one_chosen (subst (λ z. Is_one_of (or_old o (written_at z ws)) c) p (h 0 o c refl refl))
    (all_chosen ws old cells (suc s) (omega arith) (λ k x a e q. let j : s + suc k ≡ suc s + k = omega arith in subst (λ z. Is_one_of (or_old x (written_at z ws)) a) j (h (suc k) x a e q)))

unfoldable pub Chosen_up_to : (old is vs : List Datum) → ℕ → ℕ → List Datum → Type 0
Chosen_up_to old is vs m i ds = (length ds ≡ length old) × ((zs : List ℤ) → each_out exact_of is ≡ Val zs → m ≡ length is → m ≡ length vs → Chosen old (writes (length old) (take i zs) (take i vs)) ds)

module _ (old : List Datum) (is vs : Datum) (m : ℕ) where
  pub choose_start : (ds : List Datum) → ds ≡ old → Chosen_up_to old (rows_in is) (rows_in vs) m 0 ds
  unfolding Chosen_up_to
  choose_start ds e = (ap length e, λ zs q p p'. subst (Chosen old []) (sym e) (record { long = refl; each = λ k o a x y. let j : o ≡ a = cc in inl j }))

  module _ (i : ℕ) (ds : List Datum) (h : Chosen_up_to old (rows_in is) (rows_in vs) m i ds) where
    pub choose_long : (n : ℕ) → n ≡ length old → n ≡ length ds
    unfolding Chosen_up_to
    choose_long n e = e ∙ sym h.0

    pub choose_more : (x : Exact) (v : Datum) (ds' : List Datum) → Index_at (rows_in is) i x → Row_is vs i (Ok v) → Put_at (exact_held x) v ds ds' → Chosen_up_to old (rows_in is) (rows_in vs) m (i + 1) ds'
    unfolding Chosen_up_to Index_at
    choose_more x v ds' j (row_is g) p = (
      by_put p ∙ h.0,
      λ zs q l l'. subst (λ z. Chosen old (writes (length old) (take z zs) (take z (rows_in vs))) ds') (sym (add-one i))
          (subst (λ ws. Chosen old ws ds') (sym (writes_more (length old) zs (rows_in vs) i (exact_held x) v (j zs q) g)) (chosen_put old (writes (length old) (take i zs) (take i (rows_in vs))) ds ds' (exact_held x) v (h.1 zs q l l') p)),
    )
      where
        by_put : Put_at (exact_held x) v ds ds' → length ds' ≡ length ds
        by_put (put_there k a b c) = ap length c ∙ set_long ds k v
        by_put (put_nowhere a b) = ap length b

    pub choose_end : m ≤ i → Rows_chosen old (rows_in is) (rows_in vs) m ds
    unfolding Chosen_up_to Rows_chosen
    choose_end l zs q p p' = let c = h.1 zs q p p' in
        all_chosen (writes (length old) zs (rows_in vs)) old ds 0 c.long (λ k o a x y. let j : k ≡ 0 + k = omega arith in subst (λ z. Is_one_of (or_old o (written_at z (writes (length old) zs (rows_in vs)))) a) j
        (subst (λ ws. Is_one_of (or_old o (written_at k ws)) a) (ap (λ z. writes (length old) z (take i (rows_in vs))) (take_all i zs (omega (arith, read_long (rows_in is) zs q))) ∙ ap (writes (length old) zs) (take_all i (rows_in vs) (omega arith))) (c.each k o a x y)))

pub ruleset choosing = (choose_start, choose_long, choose_more, choose_end)

-- ---- the sizes of what is written

module _ (at : Place) (d is vs : Datum) (n m b : ℕ) (g : Counts d (Ok n)) (g' : Counts is (Ok m)) (g'' : Counts vs (Ok b)) where
  sizes_of : (k : Rows → List (ℕ × Datum) → Out Job) → written_to at d is vs k ≡ fitting false (nat_eq m b) at (fitting false (nat_eq n 0 || (nat_eq b 0 || same_sizes (row_shape_in d) (row_shape_in vs))) at (all_written d is vs (k (row_shape_in d, rows_in d))))
  unfolding written_to all_written
  sizes_of k = by_counts g g' g''
    where
      all : Out Job
      all = and_then (each_out exact_of (rows_in is)) (λ zs. k (row_shape_in d, rows_in d) (writes (length (rows_in d)) zs (rows_in vs)))

      by_counts : Counts d (Ok n) → Counts is (Ok m) → Counts vs (Ok b) → on_rows d (λ r. written false at r is vs (k r)) ≡ fitting false (nat_eq m b) at (fitting false (nat_eq n 0 || (nat_eq b 0 || same_sizes (row_shape_in d) (row_shape_in vs))) at all)
      by_counts (counts q p) (counts q' p') (counts q'' p'') =
          ap (λ o. and_then o (λ r. written false at r is vs (k r))) q
          ∙ ap (λ o. and_then o (λ i. and_then (rows_of vs) (λ s. fitting false (nat_eq (length i.1) (length s.1)) at (fitting false (shown_to_agree (row_shape_in d, rows_in d) s) at (and_then (each_out exact_of i.1) (λ zs. k (row_shape_in d, rows_in d) (writes (length (rows_in d)) zs s.1))))))) q'
          ∙ ap (λ o. and_then o (λ s. fitting false (nat_eq (length (rows_in is)) (length s.1)) at (fitting false (shown_to_agree (row_shape_in d, rows_in d) s) at (and_then (each_out exact_of (rows_in is)) (λ zs. k (row_shape_in d, rows_in d) (writes (length (rows_in d)) zs s.1)))))) q''
          ∙ ap (λ c. fitting false (nat_eq c (length (rows_in vs))) at (fitting false (shown_to_agree (row_shape_in d, rows_in d) (row_shape_in vs, rows_in vs)) at all)) (sym p')
          ∙ ap (λ c. fitting false (nat_eq m c) at (fitting false (nat_eq (length (rows_in d)) 0 || (nat_eq c 0 || same_sizes (row_shape_in d) (row_shape_in vs))) at all)) (sym p'')
          ∙ ap (λ c. fitting false (nat_eq m b) at (fitting false (nat_eq c 0 || (nat_eq b 0 || same_sizes (row_shape_in d) (row_shape_in vs))) at all)) (sym p)

  pub counts_differ : (m ≡ b → ⊥) → Write_counts at d is vs (Err (Failed (record { kind = kind.Size; place = at })))
  counts_differ x = writes_fail (λ k. sizes_of k ∙ ap (λ t. fitting false t at (fitting false (nat_eq n 0 || (nat_eq b 0 || same_sizes (row_shape_in d) (row_shape_in vs))) at (all_written d is vs (k (row_shape_in d, rows_in d))))) (ne_eqb m b x))

  module _ (x : m ≡ b) (h i : Shape) (q : h ≡ row_shape_in d) (p : i ≡ row_shape_in vs) (t : Bool) (w : t ≡ (nat_eq n 0 || (nat_eq b 0 || same_sizes h i))) where
    fit_so : (k : Rows → List (ℕ × Datum) → Out Job) → written_to at d is vs k ≡ fitting false t at (all_written d is vs (k (row_shape_in d, rows_in d)))
    fit_so k = sizes_of k ∙ ap (λ t. fitting false t at (fitting false (nat_eq n 0 || (nat_eq b 0 || same_sizes (row_shape_in d) (row_shape_in vs))) at (all_written d is vs (k (row_shape_in d, rows_in d))))) (eq-eqb m b x)
        ∙ ap (λ t. fitting false t at (all_written d is vs (k (row_shape_in d, rows_in d)))) (sym (w ∙ ap (λ z. nat_eq n 0 || (nat_eq b 0 || same_sizes z i)) q ∙ ap (λ z. nat_eq n 0 || (nat_eq b 0 || same_sizes (row_shape_in d) z)) p))

    pub rows_differ : t ≡ false → Write_counts at d is vs (Err (Failed (record { kind = kind.Size; place = at })))
    rows_differ y = writes_fail (λ k. fit_so k ∙ ap (λ t. fitting false t at (all_written d is vs (k (row_shape_in d, rows_in d)))) y)

    pub all_fit : t ≡ true → Write_counts at d is vs (Ok (n, m))
    all_fit y = write_counts (long g) (long g') (x ∙ long g'') (λ k. fit_so k ∙ ap (λ t. fitting false t at (all_written d is vs (k (row_shape_in d, rows_in d)))) y)
      where
        long : {a : Datum} {n : ℕ} → Counts a (Ok n) → n ≡ length (rows_in a)
        long (counts q p) = p

pub ruleset counting = (counts_differ, rows_differ, all_fit, writes_memory)

-- ---- a scatter

module _ (at : Place) (d is vs : Datum) where
  abbrev choosing_job : Rows → List (ℕ × Datum) → Out Job
  choosing_job r ws = Val (Choose_each ws r.1 (in_array r.0))

  is_written : scattered false at d is vs ≡ written_to at d is vs choosing_job
  unfolding written_to
  is_written = refl

  pub scatter_stop : (s : Stop) → Write_counts at d is vs (Err s) → Scatters (scattered false at d is vs) (Err s)
  scatter_stop _ (writes_fail q) = scatter_fails (is_written ∙ q choosing_job)
  scatter_stop _ writes_memory = scatter_memory

  pub scatter_done : (n m : ℕ) (h : Shape) (old ds : List Datum) (v : Datum) → old ≡ rows_in d → Write_counts at d is vs (Ok (n, m)) → Rows_chosen old (rows_in is) (rows_in vs) m ds → h ≡ row_shape_in d → v ≡ Array_datum h (datums ds) → Scatters (scattered false at d is vs) (Ok v)
  unfolding Rows_chosen all_written
  scatter_done n m h old ds v o (write_counts l l' l'' k) c q e = by_read (all_never (rows_in is))
    where
      after : Out (List ℤ) → Out Job
      after o = and_then o (λ zs. Val (Choose_each (writes (length (rows_in d)) zs (rows_in vs)) (rows_in d) (in_array (row_shape_in d))))

      job_is : scattered false at d is vs ≡ after (each_out exact_of (rows_in is))
      job_is = is_written ∙ k choosing_job

      by_read : Never_fails (each_out exact_of (rows_in is)) → Scatters (scattered false at d is vs) (Ok v)
      by_read (is_wrong z) = scatter_lost (job_is ∙ ap after z)
      by_read (has_value zs z) = scatters (writes (length (rows_in d)) zs (rows_in vs)) (rows_in d) (row_shape_in d) ds (job_is ∙ ap after z) (subst (λ old. All_chosen (places or_old 0 old (writes (length old) zs (rows_in vs))) ds) o (c zs z l' l'')) (e ∙ ap (λ h. Array_datum h (datums ds)) q)

pub places_counted : (at : Place) (d is vs : Datum) (n m : ℕ) (old : List Datum) → Write_counts at d is vs (Ok (n, m)) → old ≡ rows_in d → n ≡ length old
places_counted at d is vs n m old (write_counts l l' l'' k) q = l ∙ ap length (sym q)

pub ruleset scattering = (scatter_stop, scatter_done, scatter_memory, places_counted)

-- ---- its plan

module _ (p : Primitive) (at : Place) (ds : List Data) (x y z : Data) (e : p ≡ prim.Scatter) (l : length ds ≡ 3) where
  scatter_job : (told : Shape) → job false told p at (held_all ds) ≡ scattered false at (held (get_or ds 0 x)) (held (get_or ds 1 y)) (held (get_or ds 2 z))
  unfolding job held_all
  scatter_job told = ap (λ p. job false told p at (held_all ds)) e ∙ by_list ds l
    where
      by_list : (ds : List Data) → length ds ≡ 3 → job false told prim.Scatter at (map held ds) ≡ scattered false at (held (get_or ds 0 x)) (held (get_or ds 1 y)) (held (get_or ds 2 z))
      by_list [] l = absurd (omega arith)
      by_list (a ∷ []) l = absurd (omega arith)
      by_list (a ∷ b ∷ []) l = absurd (omega arith)
      by_list (a ∷ b ∷ c ∷ []) l = refl
      by_list (a ∷ b ∷ c ∷ d ∷ ds) l = absurd (omega arith)

  scatter_planned : Plans p at (held_all ds) (Ok plan.Scatter)
  unfolding Plans
  scatter_planned told = plan_scatter (held (get_or ds 0 x)) (held (get_or ds 1 y)) (held (get_or ds 2 z)) (three_held ds x y z l) (scatter_job told)

pub three_planned : (p : Primitive) (at : Place) (ds : List Data) → p ≡ prim.Scatter → length ds ≡ 3 → Plans p at (held_all ds) (Ok plan.Scatter)
three_planned p at ds e l = scatter_planned p at ds nothing nothing nothing e l
  where
    nothing : Data
    nothing = hold.Scalar (scalar.Bool false)

pub ruleset scatter_plans = (three_planned, no_plan)

module _ (p : Primitive) (at : Place) (ds : List Data) (w x y z : Data) (e : p ≡ prim.ReduceByIndex) (l : length ds ≡ 4) where
  abbrev combining_job : Datum → Rows → List (ℕ × Datum) → Out Job
  combining_job ne r ws = Val (Reduce_each true ne (places and_old 0 r.1 ws) (in_place_of false at r.0))

  combine_job : (told : Shape) → job false told p at (held_all ds) ≡ written_to at (held (get_or ds 0 w)) (held (get_or ds 2 y)) (held (get_or ds 3 z)) (combining_job (held (get_or ds 1 x)))
  unfolding job held_all written_to
  combine_job told = ap (λ p. job false told p at (held_all ds)) e ∙ by_list ds l
    where
      by_list : (ds : List Data) → length ds ≡ 4 → job false told prim.ReduceByIndex at (map held ds) ≡ on_rows (held (get_or ds 0 w)) (λ r. written false at r (held (get_or ds 2 y)) (held (get_or ds 3 z)) (combining_job (held (get_or ds 1 x)) r))
      by_list [] l = absurd (omega arith)
      by_list (a ∷ []) l = absurd (omega arith)
      by_list (a ∷ b ∷ []) l = absurd (omega arith)
      by_list (a ∷ b ∷ c ∷ []) l = absurd (omega arith)
      by_list (a ∷ b ∷ c ∷ d ∷ []) l = refl
      by_list (a ∷ b ∷ c ∷ d ∷ f ∷ ds) l = absurd (omega arith)

  pub combine_stops : (s : Stop) → Write_counts at (held (get_or ds 0 w)) (held (get_or ds 2 y)) (held (get_or ds 3 z)) (Err s) → Plans p at (held_all ds) (Err s)
  unfolding Plans
  combine_stops _ (writes_fail q) told = plan_fails (combine_job told ∙ q (combining_job (held (get_or ds 1 x))))
  combine_stops _ writes_memory told = plan_memory

  pub combine_planned : (n m : ℕ) → Write_counts at (held (get_or ds 0 w)) (held (get_or ds 2 y)) (held (get_or ds 3 z)) (Ok (n, m)) → Plans p at (held_all ds) (Ok (plan.Combine m))
  unfolding Plans all_written
  combine_planned n m (write_counts i i' i'' k) told = by_read (all_never (rows_in is))
    where
      is : Datum
      is = held (get_or ds 2 y)

      vs : Datum
      vs = held (get_or ds 3 z)

      after : Out (List ℤ) → Out Job
      after o = and_then o (λ zs. combining_job (held (get_or ds 1 x)) (row_shape_in (held (get_or ds 0 w)), rows_in (held (get_or ds 0 w))) (writes (length (rows_in (held (get_or ds 0 w)))) zs (rows_in vs)))

      job_is : job false told p at (held_all ds) ≡ after (each_out exact_of (rows_in is))
      job_is = combine_job told ∙ k (combining_job (held (get_or ds 1 x)))

      by_read : Never_fails (each_out exact_of (rows_in is)) → Planned told (job false told p at (held_all ds)) at (held_all ds) (Ok (plan.Combine m))
      by_read (is_wrong q) = plan_lost (job_is ∙ ap after q)
      by_read (has_value zs q) = plan_combine (held (get_or ds 0 w)) (held (get_or ds 1 x)) is vs zs (four_held ds w x y z l) q i' i'' (job_is ∙ ap after q)

pub ruleset combine_plans = (combine_stops, combine_planned, no_plan)
