-- What an index gives.
use Rattle.std.proofs.Common.{◌≡◌, ℕ, ◌-◌, List, [], ◌∷◌, ◌++◌, map, length, get_or, take, drop, slice_get, Some, Ok, Err, Result, true, false, refl, sym, ap, ◌∙◌, subst}
use Rattle.std.specs.Prelude.{ℤ, nat_le}
use Rattle.fut_scalar.specs.declared.place.Place.{Place}
use Rattle.fut_scalar.specs.declared.report.FailKind.TheVariants as kind
use Rattle.fut_flat.specs.declared.act.Part.{Part}
use Rattle.fut_value.specs.Data.{Shape, Datum, shape_of, weight}
use Rattle.fut_meaning.specs.Arrays.{indexed, each_out, exact_of, picks, Pick, cuts, Cut, Cut_at, cut, within_weight, checked, most_words}
use Rattle.fut_meaning.specs.Outcomes.{Out, Val, Fail, Wrong, and_then}
use Rattle.array_primitives.specs.declared.cuts.Cut.{Cut as Held_cut}
use Rattle.array_primitives.specs.declared.cuts.Cut.TheVariants as run
use Rattle.array_data.specs.declared.data.Data.{Data}
use Rattle.array_data.specs.declared.form.Form.{Form}
use Rattle.array_data.specs.declared.form.Form.TheVariants as form
use Rattle.array_data.specs.declared.stop.Stop.{Stop}
use Rattle.array_data.specs.declared.stop.Stop.TheVariants.{Failed}
use Rattle.array_data.specs.Answers.{Tells, told, report_told, no_memory_told, lost, Row_is, row_is, no_memory_row}
use Rattle.array_data.specs.Held.{held, held_all, rows_in, shape_held}
use Rattle.array_primitives.specs.Slices.{part_of, cuts_asked, taken, cut_held, cuts_held, First_cut, Cuts_added, cuts_added, cuts_fail, cuts_memory, cuts_lost}
use Rattle.array_primitives.proofs.Asking.{asked_first, first_refused, first_within, rest_of}
use Rattle.array_primitives.proofs.CutRows.{row_cut}
use Rattle.array_data.proofs.InnerForms.{array_size, inner_array}

-- ---- the weight

module _ (at : Place) (d : Datum) (f : Form) (e : shape_held f ≡ shape_of d) where
  pub too_heavy : false ≡ nat_le (weight (shape_held f)) most_words → Tells {A = Datum} (within_weight at d) (Err (Failed (record { kind = kind.TooLarge; place = at })))
  too_heavy w = report_told (ap (λ b. checked b kind.TooLarge at (Val d)) (ap (λ y. nat_le (weight y) most_words) (sym e) ∙ sym w))

  pub light_enough : true ≡ nat_le (weight (shape_held f)) most_words → Tells (within_weight at d) (Ok d)
  light_enough w = told (ap (λ b. checked b kind.TooLarge at (Val d)) (ap (λ y. nat_le (weight y) most_words) (sym e) ∙ sym w))

pub ruleset weights = (too_heavy, light_enough, no_memory_told)

-- ---- slices

module _ (at : Place) (ps : List Part) (h : Shape) (d : Datum) (is : List Datum) where
  pub slices_refused : (cs cs' : List Cut) (e : Stop) → Cuts_added (cuts_asked at ps is h) cs cs' (Err e) → Tells (taken at ps h d is) (Err e)
  unfolding taken
  slices_refused cs cs' _ (cuts_fail q) = report_told (ap (λ o. and_then o (λ cs. and_then (cut cs d) (within_weight at))) q)
  slices_refused cs cs' _ cuts_memory = no_memory_told
  slices_refused cs cs' _ (cuts_lost q) = lost (ap (λ o. and_then o (λ cs. and_then (cut cs d) (within_weight at))) q)

  pub slices_taken : (cs cs' : List Held_cut) (v : Datum) (r : Result Datum Stop) → cs ≡ [] → Cuts_added (cuts_asked at ps is h) (cuts_held cs) (cuts_held cs') (Ok tt) → cut (cuts_held cs') d ≡ Val v → Tells (within_weight at v) r → Tells (taken at ps h d is) r
  unfolding taken cuts_held
  slices_taken cs cs' v r e (cuts_added more q p) x t = subst (λ o. Tells o r) (sym (ap (λ o. and_then o (λ cs. and_then (cut cs d) (within_weight at))) (q ∙ ap Val (sym (p ∙ ap (λ z. map cut_held z ++ more) e))) ∙ ap (λ o. and_then o (within_weight at)) x)) t
  slices_taken cs cs' v r e (cuts_lost q) x t = lost (ap (λ o. and_then o (λ cs. and_then (cut cs d) (within_weight at))) q)

pub ruleset slices = (slices_refused, slices_taken, no_memory_told)

-- ---- one row after the other

module _ (at : Place) (ps : List Part) (p : Part) (l : length ps ≡ 0 → ⊥) (ds : List Data) (f k : Form) (n : ℕ) (g : f ≡ form.Array n k) (d : Datum) where
  pub parts_refused : (e : Stop) → First_cut at (get_or ps 0 p) (held_all ds) n (Err e) → Tells (taken at ps (shape_held f) d (held_all ds)) (Err e)
  unfolding taken
  parts_refused e h = by_told e (first_refused at ps p l ds f n (array_size f n k g) e h)
    where
      by_told : (e : Stop) → Tells (cuts_asked at ps (held_all ds) (shape_held f)) (Err e) → Tells (and_then (cuts_asked at ps (held_all ds) (shape_held f)) (λ cs. and_then (cut cs d) (within_weight at))) (Err e)
      by_told _ (report_told q) = report_told (ap (λ o. and_then o (λ cs. and_then (cut cs d) (within_weight at))) q)
      by_told _ no_memory_told = no_memory_told
      by_told _ (lost q) = lost (ap (λ o. and_then o (λ cs. and_then (cut cs d) (within_weight at))) q)

  module _ (c : Held_cut × ℕ) (i : ℕ) (qs : List Part) (es : List Data) (a : c.0 ≡ run.At i) (x : qs ≡ drop 1 ps) (y : es ≡ drop c.1 ds) (h : First_cut at (get_or ps 0 p) (held_all ds) n (Ok c)) where
    walked : (v : Datum) → slice_get (rows_in d) i ≡ Some v → taken at ps (shape_held f) d (held_all ds) ≡ taken at qs (shape_held k) v (held_all es)
    unfolding taken
    walked v s = ap (λ o. and_then o (λ cs. and_then (cut cs d) (within_weight at))) (asked_first at ps p l ds f n (array_size f n k g) k (inner_array f k n k g refl) c qs es x y h ∙ ap (λ b. and_then (cuts_asked at qs (held_all es) (shape_held k)) (λ cs. Val (cut_held b ∷ cs))) a)
        ∙ by_asked (cuts_asked at qs (held_all es) (shape_held k))
      where
        by_asked : (o : Out (List Cut)) → and_then (and_then o (λ cs. Val (Cut_at i ∷ cs))) (λ cs. and_then (cut cs d) (within_weight at)) ≡ and_then o (λ cs. and_then (cut cs v) (within_weight at))
        by_asked (Val cs) = ap (λ o. and_then o (within_weight at)) (row_cut d i v cs s)
        by_asked (Fail r) = refl
        by_asked Wrong = refl

    parts_walked : (v : Datum) (r : Result Datum Stop) → slice_get (rows_in d) i ≡ Some v → Tells (taken at qs (shape_held k) v (held_all es)) r → Tells (taken at ps (shape_held f) d (held_all ds)) r
    parts_walked v r s t = subst (λ o. Tells o r) (sym (walked v s)) t

  module _ (b : Held_cut) (u i : ℕ) (k' : Form) (a : b ≡ run.At i) (h : First_cut at (get_or ps 0 p) (held_all ds) n (Ok (b, u))) (q : k' ≡ k) (v : Datum) (r : Result Datum Stop) where
    pub parts_next : slice_get (rows_in d) i ≡ Some v → Tells (taken at (take (length ps - 1) (drop 1 ps)) (shape_held k') v (held_all (take (length ds - u) (drop u ds)))) r → Tells (taken at ps (shape_held f) d (held_all ds)) r
    parts_next s t = parts_walked (b, u) i (take (length ps - 1) (drop 1 ps)) (take (length ds - u) (drop u ds)) a (rest_of ps 1) (rest_of ds u) h v r s (subst (λ k. Tells (taken at (take (length ps - 1) (drop 1 ps)) (shape_held k) v (held_all (take (length ds - u) (drop u ds)))) r) q t)

    pub parts_read : Row_is d i (Ok v) → Tells (taken at (take (length ps - 1) (drop 1 ps)) (shape_held k') v (held_all (take (length ds - u) (drop u ds)))) r → Tells (taken at ps (shape_held f) d (held_all ds)) r
    parts_read (row_is s) t = parts_next s t

pub no_row_told : {A : Type 0} (o : Out A) (d : Datum) (i : ℕ) (e : Stop) → Row_is d i (Err e) → Tells o (Err e)
no_row_told o d i _ no_memory_row = no_memory_told

pub ruleset takings = (parts_refused, parts_next, parts_read, no_row_told, first_within, no_memory_told)

-- ---- an index of data

indexed_so : (at : Place) (ps : List Part) (d : Datum) (is : List Datum) → indexed at ps d is ≡ taken at ps (shape_of d) d is
unfolding indexed taken cuts_asked
indexed_so at ps d is = by_read (each_out exact_of is)
  where
    by_picks : (o : Out (List Pick)) → and_then o (λ qs. and_then (cuts at qs (shape_of d)) (λ cs. and_then (cut cs d) (within_weight at))) ≡ and_then (and_then o (λ qs. cuts at qs (shape_of d))) (λ cs. and_then (cut cs d) (within_weight at))
    by_picks (Val qs) = refl
    by_picks (Fail r) = refl
    by_picks Wrong = refl

    by_read : (o : Out (List ℤ)) → and_then o (λ zs. and_then (picks ps zs) (λ qs. and_then (cuts at qs (shape_of d)) (λ cs. and_then (cut cs d) (within_weight at))))
        ≡ and_then (and_then o (λ zs. and_then (picks ps zs) (λ qs. cuts at qs (shape_of d)))) (λ cs. and_then (cut cs d) (within_weight at))
    by_read (Val zs) = by_picks (picks ps zs)
    by_read (Fail r) = refl
    by_read Wrong = refl

pub index_told : (at : Place) (ps : List Part) (ds : List Data) (x : Data) (f : Form) (r : Result Datum Stop) → (length ds ≡ 0 → ⊥) → shape_held f ≡ shape_of (held (get_or ds 0 x)) → Tells (taken at ps (shape_held f) (held (get_or ds 0 x)) (held_all (take (length ds - 1) (drop 1 ds)))) r → Tells (part_of at ps (held_all ds)) r
unfolding held_all
index_told at ps ds x f r l s t = by_list ds l s (subst (λ z. Tells (taken at ps (shape_held f) (held (get_or ds 0 x)) (held_all z)) r) (rest_of ds 1) t)
  where
    by_list : (ds : List Data) → (length ds ≡ 0 → ⊥) → shape_held f ≡ shape_of (held (get_or ds 0 x)) → Tells (taken at ps (shape_held f) (held (get_or ds 0 x)) (held_all (drop 1 ds))) r → Tells (part_of at ps (held_all ds)) r
    by_list [] l s t = absurd (l refl)
    by_list (d ∷ ds) l s t = subst (λ o. Tells o r) (ap (λ h. taken at ps h (held d) (held_all ds)) s ∙ sym (indexed_so at ps (held d) (held_all ds))) t

pub ruleset parted = (index_told, no_memory_told)
