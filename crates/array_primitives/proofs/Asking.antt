-- What the parts of an index ask for.
use Rattle.std.proofs.Common.{◌≡◌, ℕ, zero, suc, ◌+◌, ◌-◌, ◌<◌, ◌≤◌, List, [], ◌∷◌, ◌++◌, map, length, get_or, take, drop, Ok, Err, Result, Bool, true, false, refl, sym, ap, ◌∙◌, subst, arith, append_assoc}
use Rattle.std.specs.Prelude.{ℤ, pos, negsuc, nat_le, ◌&&◌}
use Rattle.std.proofs.lemmas.Bool.{le-leb, lt-leb}
use Rattle.std.proofs.lemmas.List.{take_all, length-drop}
use Rattle.fut_scalar.specs.declared.place.Place.{Place}
use Rattle.fut_scalar.specs.declared.report.Report.{Report}
use Rattle.fut_scalar.specs.declared.report.FailKind.TheVariants as kind
use Rattle.fut_scalar.specs.declared.scalar.Scalar.TheVariants as scalar
use Rattle.fut_flat.specs.declared.act.Part.{Part}
use Rattle.fut_flat.specs.declared.act.Part.TheVariants as part
use Rattle.fut_value.specs.Data.{Shape, Datum, Scalar_datum, Tuple_datum, Record_datum, Array_datum}
use Rattle.fut_meaning.specs.Arrays.{each_out, exact_of, picks, Pick, Pick_at, Pick_slice, Pick_backwards, and_pick, cuts, cut_of, Cut, Cut_at, Cut_slice, Cut_backwards, size, inner, slice_cut, or_else, checked}
use Rattle.fut_meaning.specs.Outcomes.{Out, Val, Fail, Wrong, and_then}
use Rattle.array_primitives.specs.declared.cuts.Cut.{Cut as Held_cut}
use Rattle.array_primitives.specs.declared.cuts.Cut.TheVariants as run
use Rattle.array_data.specs.declared.data.Data.{Data}
use Rattle.array_data.specs.declared.form.Form.{Form}
use Rattle.array_data.specs.declared.sizes.Exact.{Exact}
use Rattle.array_data.specs.declared.sizes.Exact.TheVariants as exact
use Rattle.array_data.specs.declared.stop.Stop.{Stop}
use Rattle.array_data.specs.declared.stop.Stop.TheVariants.{Failed}
use Rattle.array_data.specs.Answers.{Tells, report_told, no_memory_told, lost, Exact_is, exact_is, exact_held}
use Rattle.array_data.specs.Held.{held, held_all, shape_held}
use Rattle.array_primitives.specs.Slices.{cuts_asked, cut_held, cuts_held, Cut_is, cut_is, cut_fails, if_written, all_written, End_read, end_read, no_memory_end, First_cut, first_cut, first_fails, no_memory_first, Cuts_added, cuts_added, cuts_fail, cuts_memory, cuts_lost}
use Rattle.array_data.proofs.Forms.{map_push, held_length, drop_past}

-- ---- one cut

module _ (at : Place) (n : ℕ) (x : Exact) where
  pub row_below : (k : ℕ) → x ≡ exact.Below k → Cut_is (cut_of at n (Pick_at (exact_held x))) (Err (Failed (record { kind = kind.Bounds; place = at })))
  unfolding exact_held
  row_below k e = cut_fails (ap (λ x. cut_of at n (Pick_at (exact_held x))) e)

  pub row_beyond : (k : ℕ) → x ≡ exact.Natural k → n ≤ k → Cut_is (cut_of at n (Pick_at (exact_held x))) (Err (Failed (record { kind = kind.Bounds; place = at })))
  unfolding exact_held
  row_beyond k e l = cut_fails (ap (λ x. cut_of at n (Pick_at (exact_held x))) e ∙ ap (λ b. checked b kind.Bounds at (Val (Cut_at k))) (lt-leb (suc k) n (omega arith)))

  pub row_there : (k : ℕ) → x ≡ exact.Natural k → k < n → Cut_is (cut_of at n (Pick_at (exact_held x))) (Ok (run.At k))
  unfolding exact_held
  row_there k e l = cut_is (ap (λ x. cut_of at n (Pick_at (exact_held x))) e ∙ ap (λ b. checked b kind.Bounds at (Val (Cut_at k))) (le-leb (suc k) n (omega arith)))

  pub from_below : (y : Exact) (k : ℕ) → x ≡ exact.Below k → Cut_is (slice_cut at n (exact_held x) (exact_held y)) (Err (Failed (record { kind = kind.Bounds; place = at })))
  unfolding exact_held
  from_below y k e = cut_fails (ap (λ x. slice_cut at n (exact_held x) (exact_held y)) e ∙ no_start (exact_held y))
    where
      no_start : (z : ℤ) → slice_cut at n (negsuc k) z ≡ Fail (record { kind = kind.Bounds; place = at })
      no_start (pos j) = refl
      no_start (negsuc j) = refl

  module _ (y : Exact) (i : ℕ) (e : x ≡ exact.Natural i) where
    pub to_below : (j : ℕ) → y ≡ exact.Below j → Cut_is (slice_cut at n (exact_held x) (exact_held y)) (Err (Failed (record { kind = kind.Bounds; place = at })))
    unfolding exact_held
    to_below j q = cut_fails (ap (λ x. slice_cut at n (exact_held x) (exact_held y)) e ∙ ap (λ y. slice_cut at n (pos i) (exact_held y)) q)

    module _ (j : ℕ) (q : y ≡ exact.Natural j) where
      both_natural : (b : Bool) → (nat_le i j && nat_le j n) ≡ b → slice_cut at n (exact_held x) (exact_held y) ≡ checked b kind.Bounds at (Val (Cut_slice i j))
      unfolding exact_held
      both_natural b t = ap (λ x. slice_cut at n (exact_held x) (exact_held y)) e ∙ ap (λ y. slice_cut at n (pos i) (exact_held y)) q ∙ ap (λ b. checked b kind.Bounds at (Val (Cut_slice i j))) t

      pub ends_crossed : j < i → Cut_is (slice_cut at n (exact_held x) (exact_held y)) (Err (Failed (record { kind = kind.Bounds; place = at })))
      ends_crossed l = cut_fails (both_natural false (ap (λ b. b && nat_le j n) (lt-leb i j l)))

      pub end_beyond : n < j → Cut_is (slice_cut at n (exact_held x) (exact_held y)) (Err (Failed (record { kind = kind.Bounds; place = at })))
      end_beyond l = cut_fails (both_natural false (ap (λ b. nat_le i j && b) (lt-leb j n l) ∙ no_both (nat_le i j)))
        where
          no_both : (b : Bool) → (b && false) ≡ false
          no_both true = refl
          no_both false = refl

      pub ends_there : i ≤ j → j ≤ n → Cut_is (slice_cut at n (exact_held x) (exact_held y)) (Ok (run.Slice i j))
      ends_there l k = cut_is (both_natural true (ap (λ b. b && nat_le j n) (le-leb i j l) ∙ le-leb j n k))

pub ruleset cutting = (row_below, row_beyond, row_there, from_below, to_below, ends_crossed, end_beyond, ends_there)

-- ---- one end

first_held : (ds : List Data) (x : Data) → (length ds ≡ 0 → ⊥) → held_all ds ≡ held (get_or ds 0 x) ∷ held_all (drop 1 ds)
unfolding held_all
first_held [] x l = absurd (l refl)
first_held (d ∷ ds) x l = refl

module _ (w : Bool) (ds : List Data) (n : ℕ) where
  pub end_written : (x : Data) (z : Exact) → w ≡ true → (length ds ≡ 0 → ⊥) → Exact_is (held (get_or ds 0 x)) (Ok z) → End_read w (held_all ds) n (Ok (z, 1))
  end_written x z e l (exact_is q) = subst (λ w. End_read w (held_all ds) n (Ok (z, 1))) (sym e) (subst (λ is. End_read true is n (Ok (z, 1))) (sym (first_held ds x l))
      (end_read {c = (z, 1)} (omega arith) (omega arith) refl (ap (λ o. and_then o (λ y. and_then (each_out exact_of (held_all (drop 1 ds))) (λ ys. Val (y ∷ ys)))) q)))

  pub end_unwritten : w ≡ false → End_read w (held_all ds) n (Ok (exact.Natural n, 0))
  unfolding exact_held
  end_unwritten e = subst (λ w. End_read w (held_all ds) n (Ok (exact.Natural n, 0))) (sym e) (end_read {c = (exact.Natural n, 0)} (omega arith) (omega arith) refl (same (each_out exact_of (held_all ds))))
    where
      same : (o : Out (List ℤ)) → o ≡ and_then o (λ zs. Val zs)
      same (Val zs) = refl
      same (Fail r) = refl
      same Wrong = refl

pub ruleset ends = (end_written, end_unwritten, no_memory_end)

-- ---- an outcome that is no failure

pub data Never_fails {A : Type 0} (o : Out A) : Type 0 where
  has_value : (a : A) → o ≡ Val a → Never_fails o
  is_wrong : o ≡ Wrong → Never_fails o

then_never : {A B : Type 0} (o : Out A) (k : A → Out B) → Never_fails o → ((a : A) → Never_fails (k a)) → Never_fails (and_then o k)
then_never o k (has_value a e) h = subst Never_fails (sym (ap (λ o. and_then o k) e)) (h a)
then_never o k (is_wrong e) h = is_wrong (ap (λ o. and_then o k) e)

exact_never : (d : Datum) → Never_fails (exact_of d)
exact_never (Scalar_datum (scalar.Int t n)) = has_value _ refl
exact_never (Scalar_datum (scalar.Bool b)) = is_wrong refl
exact_never (Tuple_datum ds) = is_wrong refl
exact_never (Record_datum fs) = is_wrong refl
exact_never (Array_datum h ds) = is_wrong refl

pub all_never : (ds : List Datum) → Never_fails (each_out exact_of ds)
all_never [] = has_value [] refl
all_never (d ∷ ds) = then_never (exact_of d) _ (exact_never d) (λ z. then_never (each_out exact_of ds) _ (all_never ds) (λ zs. has_value (z ∷ zs) refl))

pick_never : (q : Pick) (o : Out (List Pick)) → Never_fails o → Never_fails (and_pick q o)
pick_never q o h = then_never o _ h (λ qs. has_value (q ∷ qs) refl)

picks_never : (ps : List Part) (zs : List ℤ) → Never_fails (picks ps zs)
unfolding picks
picks_never [] [] = has_value [] refl
picks_never [] (z ∷ zs) = is_wrong refl
picks_never (part.At ∷ ps) [] = is_wrong refl
picks_never (part.At ∷ ps) (z ∷ zs) = pick_never _ _ (picks_never ps zs)
picks_never (part.Slice true true ∷ ps) [] = is_wrong refl
picks_never (part.Slice true true ∷ ps) (z ∷ []) = is_wrong refl
picks_never (part.Slice true true ∷ ps) (z ∷ w ∷ zs) = pick_never _ _ (picks_never ps zs)
picks_never (part.Slice true false ∷ ps) [] = is_wrong refl
picks_never (part.Slice true false ∷ ps) (z ∷ zs) = pick_never _ _ (picks_never ps zs)
picks_never (part.Slice false true ∷ ps) [] = is_wrong refl
picks_never (part.Slice false true ∷ ps) (z ∷ zs) = pick_never _ _ (picks_never ps zs)
picks_never (part.Slice false false ∷ ps) zs = pick_never _ _ (picks_never ps zs)
picks_never (part.Backwards ∷ ps) zs = pick_never _ _ (picks_never ps zs)

-- ---- the first part

module _ (at : Place) (p : Part) (q : Pick) (first : List ℤ) (is rest : List Datum) (a : each_out exact_of is ≡ and_then (each_out exact_of rest) (λ zs. Val (first ++ zs)))
    (b : (ps : List Part) (zs : List ℤ) → picks (p ∷ ps) (first ++ zs) ≡ and_pick q (picks ps zs)) (n : ℕ) (ps : List Part) (h : Shape) (e : size h ≡ n) where
  asked_so : cuts_asked at (p ∷ ps) is h ≡ and_then (each_out exact_of rest) (λ zs. and_then (picks ps zs) (λ qs. and_then (cut_of at n q) (λ c. and_then (cuts at qs (inner h)) (λ cs. Val (c ∷ cs)))))
  unfolding cuts_asked cuts
  asked_so = ap (λ o. and_then o (λ zs. and_then (picks (p ∷ ps) zs) (λ qs. cuts at qs h))) a ∙ by_read (each_out exact_of rest)
    where
      by_picks : (o : Out (List Pick)) → and_then (and_pick q o) (λ qs. cuts at qs h) ≡ and_then o (λ qs. and_then (cut_of at n q) (λ c. and_then (cuts at qs (inner h)) (λ cs. Val (c ∷ cs))))
      by_picks (Val qs) = ap (λ n. and_then (cut_of at n q) (λ c. and_then (cuts at qs (inner h)) (λ cs. Val (c ∷ cs)))) e
      by_picks (Fail r) = refl
      by_picks Wrong = refl

      by_read : (o : Out (List ℤ)) → and_then (and_then o (λ zs. Val (first ++ zs))) (λ zs. and_then (picks (p ∷ ps) zs) (λ qs. cuts at qs h))
          ≡ and_then o (λ zs. and_then (picks ps zs) (λ qs. and_then (cut_of at n q) (λ c. and_then (cuts at qs (inner h)) (λ cs. Val (c ∷ cs)))))
      by_read (Val zs) = ap (λ o. and_then o (λ qs. cuts at qs h)) (b ps zs) ∙ by_picks (picks ps zs)
      by_read (Fail r) = refl
      by_read Wrong = refl

  asked_cut : (c : Cut) → cut_of at n q ≡ Val c → cuts_asked at (p ∷ ps) is h ≡ and_then (cuts_asked at ps rest (inner h)) (λ cs. Val (c ∷ cs))
  unfolding cuts_asked
  asked_cut c x = asked_so ∙ by_read (each_out exact_of rest)
    where
      by_picks : (o : Out (List Pick)) → and_then o (λ qs. and_then (cut_of at n q) (λ c. and_then (cuts at qs (inner h)) (λ cs. Val (c ∷ cs)))) ≡ and_then (and_then o (λ qs. cuts at qs (inner h))) (λ cs. Val (c ∷ cs))
      by_picks (Val qs) = ap (λ o. and_then o (λ c. and_then (cuts at qs (inner h)) (λ cs. Val (c ∷ cs)))) x
      by_picks (Fail r) = refl
      by_picks Wrong = refl

      by_read : (o : Out (List ℤ)) → and_then o (λ zs. and_then (picks ps zs) (λ qs. and_then (cut_of at n q) (λ c. and_then (cuts at qs (inner h)) (λ cs. Val (c ∷ cs)))))
          ≡ and_then (and_then o (λ zs. and_then (picks ps zs) (λ qs. cuts at qs (inner h)))) (λ cs. Val (c ∷ cs))
      by_read (Val zs) = by_picks (picks ps zs)
      by_read (Fail r) = refl
      by_read Wrong = refl

  asked_fails : (r : Report) → cut_of at n q ≡ Fail r → Tells (cuts_asked at (p ∷ ps) is h) (Err (Failed r))
  asked_fails r x = subst (λ o. Tells o (Err (Failed r))) (sym asked_so) (by_read (each_out exact_of rest) (all_never rest))
    where
      by_picks : (o : Out (List Pick)) → Never_fails o → Tells (and_then o (λ qs. and_then (cut_of at n q) (λ c. and_then (cuts at qs (inner h)) (λ cs. Val (c ∷ cs))))) (Err (Failed r))
      by_picks o (has_value qs y) = report_told (ap (λ o. and_then o (λ qs. and_then (cut_of at n q) (λ c. and_then (cuts at qs (inner h)) (λ cs. Val (c ∷ cs))))) y ∙ ap (λ o. and_then o (λ c. and_then (cuts at qs (inner h)) (λ cs. Val (c ∷ cs)))) x)
      by_picks o (is_wrong y) = lost (ap (λ o. and_then o (λ qs. and_then (cut_of at n q) (λ c. and_then (cuts at qs (inner h)) (λ cs. Val (c ∷ cs))))) y)

      by_read : (o : Out (List ℤ)) → Never_fails o → Tells (and_then o (λ zs. and_then (picks ps zs) (λ qs. and_then (cut_of at n q) (λ c. and_then (cuts at qs (inner h)) (λ cs. Val (c ∷ cs)))))) (Err (Failed r))
      by_read o (has_value zs y) = subst (λ o. Tells (and_then o (λ zs. and_then (picks ps zs) (λ qs. and_then (cut_of at n q) (λ c. and_then (cuts at qs (inner h)) (λ cs. Val (c ∷ cs)))))) (Err (Failed r))) (sym y) (by_picks (picks ps zs) (picks_never ps zs))
      by_read o (is_wrong y) = lost (ap (λ o. and_then o (λ zs. and_then (picks ps zs) (λ qs. and_then (cut_of at n q) (λ c. and_then (cuts at qs (inner h)) (λ cs. Val (c ∷ cs)))))) y)

at_picked : (z : ℤ) (ps : List Part) (zs : List ℤ) → picks (part.At ∷ ps) (z ∷ zs) ≡ and_pick (Pick_at z) (picks ps zs)
unfolding picks
at_picked z ps zs = refl

slice_picked : (f t : Bool) (z w : ℤ) (ps : List Part) (zs : List ℤ) → picks (part.Slice f t ∷ ps) ((all_written f z ++ all_written t w) ++ zs) ≡ and_pick (Pick_slice (if_written f z) (if_written t w)) (picks ps zs)
unfolding picks
slice_picked true true z w ps zs = refl
slice_picked true false z w ps zs = refl
slice_picked false true z w ps zs = refl
slice_picked false false z w ps zs = refl

back_picked : (ps : List Part) (zs : List ℤ) → picks (part.Backwards ∷ ps) zs ≡ and_pick Pick_backwards (picks ps zs)
unfolding picks
back_picked ps zs = refl

drop_more : {A : Type 0} (xs : List A) (n m : ℕ) → drop m (drop n xs) ≡ drop (n + m) xs
drop_more xs zero m = let e : m ≡ zero + m = omega arith in ap (λ k. drop k xs) e
drop_more [] (suc n) m = drop_past [] m (omega arith) ∙ sym (drop_past [] (suc n + m) (omega arith))
drop_more (x ∷ xs) (suc n) m = let e : suc (n + m) ≡ suc n + m = omega arith in drop_more xs n m ∙ ap (λ k. drop k (x ∷ xs)) e

pub rest_of : {A : Type 0} (ds : List A) (k : ℕ) → take (length ds - k) (drop k ds) ≡ drop k ds
rest_of ds k = take_all (length ds - k) (drop k ds) (omega (arith, length-drop k ds))

held_drop : (ds : List Data) (k : ℕ) → held_all (drop k ds) ≡ drop k (held_all ds)
unfolding held_all
held_drop ds zero = refl
held_drop [] (suc k) = refl
held_drop (d ∷ ds) (suc k) = held_drop ds k

module _ (at : Place) (p : Part) (ds : List Data) (n : ℕ) where
  pub end_fails : (w : Bool) (m : ℕ) (es : List Data) (e : Stop) → End_read w (held_all es) m (Err e) → First_cut at p (held_all ds) n (Err e)
  end_fails w m es _ no_memory_end = no_memory_first

  module _ (m : ℕ) (c : Exact × ℕ) (g : p ≡ part.At) where
    pub at_first : (k : Held_cut) → End_read true (held_all ds) m (Ok c) → Cut_is (cut_of at n (Pick_at (exact_held c.0))) (Ok k) → First_cut at p (held_all ds) n (Ok (k, c.1))
    at_first k (end_read l s o a) (cut_is x) = subst (λ p. First_cut at p (held_all ds) n (Ok (k, c.1))) (sym g)
        (first_cut {c = (k, c.1)} l (λ ps h e. asked_cut at part.At (Pick_at (exact_held c.0)) (exact_held c.0 ∷ []) (held_all ds) (drop c.1 (held_all ds)) a (at_picked (exact_held c.0)) n ps h e (cut_held k) x))

    pub at_fails : (r : Stop) → End_read true (held_all ds) m (Ok c) → Cut_is (cut_of at n (Pick_at (exact_held c.0))) (Err r) → First_cut at p (held_all ds) n (Err r)
    at_fails _ (end_read l s o a) (cut_fails {r} x) = subst (λ p. First_cut at p (held_all ds) n (Err (Failed r))) (sym g)
        (first_fails (λ ps h e. asked_fails at part.At (Pick_at (exact_held c.0)) (exact_held c.0 ∷ []) (held_all ds) (drop c.1 (held_all ds)) a (at_picked (exact_held c.0)) n ps h e r x))

  pub back_first : p ≡ part.Backwards → First_cut at p (held_all ds) n (Ok (run.Backwards, 0))
  back_first g = subst (λ p. First_cut at p (held_all ds) n (Ok (run.Backwards, 0))) (sym g)
      (first_cut {c = (run.Backwards, 0)} (omega arith) (λ ps h e. asked_cut at part.Backwards Pick_backwards [] (held_all ds) (held_all ds) (same (each_out exact_of (held_all ds))) back_picked n ps h e Cut_backwards refl))
    where
      same : (o : Out (List ℤ)) → o ≡ and_then o (λ zs. Val zs)
      same (Val zs) = refl
      same (Fail r) = refl
      same Wrong = refl

  module _ (f t : Bool) (c c' : Exact × ℕ) (es : List Data) (g : p ≡ part.Slice f t) (d : es ≡ drop c.1 ds) where
    both_read : each_out exact_of (held_all ds) ≡ and_then (each_out exact_of (drop c.1 (held_all ds))) (λ zs. Val (all_written f (exact_held c.0) ++ zs))
        → each_out exact_of (held_all es) ≡ and_then (each_out exact_of (drop c'.1 (held_all es))) (λ zs. Val (all_written t (exact_held c'.0) ++ zs))
        → each_out exact_of (held_all ds) ≡ and_then (each_out exact_of (drop (c.1 + c'.1) (held_all ds))) (λ zs. Val ((all_written f (exact_held c.0) ++ all_written t (exact_held c'.0)) ++ zs))
    both_read a b = a ∙ ap (λ is. and_then (each_out exact_of is) (λ zs. Val (all_written f (exact_held c.0) ++ zs))) (sym (ap held_all d ∙ held_drop ds c.1))
        ∙ ap (λ o. and_then o (λ zs. Val (all_written f (exact_held c.0) ++ zs))) b
        ∙ ap (λ is. and_then (and_then (each_out exact_of (drop c'.1 is)) (λ zs. Val (all_written t (exact_held c'.0) ++ zs))) (λ zs. Val (all_written f (exact_held c.0) ++ zs))) (ap held_all d ∙ held_drop ds c.1)
        ∙ ap (λ is. and_then (and_then (each_out exact_of is) (λ zs. Val (all_written t (exact_held c'.0) ++ zs))) (λ zs. Val (all_written f (exact_held c.0) ++ zs))) (drop_more (held_all ds) c.1 c'.1)
        ∙ joined (each_out exact_of (drop (c.1 + c'.1) (held_all ds)))
      where
        joined : (o : Out (List ℤ)) → and_then (and_then o (λ zs. Val (all_written t (exact_held c'.0) ++ zs))) (λ zs. Val (all_written f (exact_held c.0) ++ zs)) ≡ and_then o (λ zs. Val ((all_written f (exact_held c.0) ++ all_written t (exact_held c'.0)) ++ zs))
        joined (Val zs) = ap Val (sym (append_assoc (all_written f (exact_held c.0)) (all_written t (exact_held c'.0)) zs))
        joined (Fail r) = refl
        joined Wrong = refl

    both_long : c.1 ≤ length (held_all ds) → c'.1 ≤ length (held_all es) → c.1 + c'.1 ≤ length (held_all ds)
    both_long l m = omega (arith, ap length (ap held_all d ∙ held_drop ds c.1), length-drop c.1 (held_all ds))

    module _ (o : or_else (pos 0) (if_written f (exact_held c.0)) ≡ exact_held c.0) (o' : or_else (pos n) (if_written t (exact_held c'.0)) ≡ exact_held c'.0) where
      ends_so : cut_of at n (Pick_slice (if_written f (exact_held c.0)) (if_written t (exact_held c'.0))) ≡ slice_cut at n (exact_held c.0) (exact_held c'.0)
      ends_so = ap (λ z. slice_cut at n z (or_else (pos n) (if_written t (exact_held c'.0)))) o ∙ ap (slice_cut at n (exact_held c.0)) o'

    slice_first : (k : Held_cut) (u : ℕ) → End_read f (held_all ds) 0 (Ok c) → End_read t (held_all es) n (Ok c') → Cut_is (slice_cut at n (exact_held c.0) (exact_held c'.0)) (Ok k) → u ≡ c.1 + c'.1 → First_cut at p (held_all ds) n (Ok (k, u))
    slice_first k u (end_read l s o a) (end_read l' s' o' a') (cut_is x) v = subst (λ p. First_cut at p (held_all ds) n (Ok (k, u))) (sym g) (subst (λ u. First_cut at (part.Slice f t) (held_all ds) n (Ok (k, u))) (sym v)
        (first_cut {c = (k, c.1 + c'.1)} (both_long l l') (λ ps h e. asked_cut at (part.Slice f t) (Pick_slice (if_written f (exact_held c.0)) (if_written t (exact_held c'.0))) (all_written f (exact_held c.0) ++ all_written t (exact_held c'.0))
        (held_all ds) (drop (c.1 + c'.1) (held_all ds)) (both_read a a') (slice_picked f t (exact_held c.0) (exact_held c'.0)) n ps h e (cut_held k) (ends_so o o' ∙ x))))

    slice_fails : (r : Stop) → End_read f (held_all ds) 0 (Ok c) → End_read t (held_all es) n (Ok c') → Cut_is (slice_cut at n (exact_held c.0) (exact_held c'.0)) (Err r) → First_cut at p (held_all ds) n (Err r)
    slice_fails _ (end_read l s o a) (end_read l' s' o' a') (cut_fails {r} x) = subst (λ p. First_cut at p (held_all ds) n (Err (Failed r))) (sym g)
        (first_fails (λ ps h e. asked_fails at (part.Slice f t) (Pick_slice (if_written f (exact_held c.0)) (if_written t (exact_held c'.0))) (all_written f (exact_held c.0) ++ all_written t (exact_held c'.0))
        (held_all ds) (drop (c.1 + c'.1) (held_all ds)) (both_read a a') (slice_picked f t (exact_held c.0) (exact_held c'.0)) n ps h e r (ends_so o o' ∙ x)))

  pub slice_asked : (f t : Bool) (x y : Exact) (u v : ℕ) (k : Held_cut) (w : ℕ) → p ≡ part.Slice f t → End_read f (held_all ds) 0 (Ok (x, u)) → End_read t (held_all (take (length ds - u) (drop u ds))) n (Ok (y, v)) → Cut_is (slice_cut at n (exact_held x) (exact_held y)) (Ok k) → w ≡ u + v → First_cut at p (held_all ds) n (Ok (k, w))
  slice_asked f t x y u v k w g a b c e = slice_first f t (x, u) (y, v) (take (length ds - u) (drop u ds)) g (rest_of ds u) k w a b c e

  pub slice_refused : (f t : Bool) (x y : Exact) (u v : ℕ) (r : Stop) → p ≡ part.Slice f t → End_read f (held_all ds) 0 (Ok (x, u)) → End_read t (held_all (take (length ds - u) (drop u ds))) n (Ok (y, v)) → Cut_is (slice_cut at n (exact_held x) (exact_held y)) (Err r) → First_cut at p (held_all ds) n (Err r)
  slice_refused f t x y u v r g a b c = slice_fails f t (x, u) (y, v) (take (length ds - u) (drop u ds)) g (rest_of ds u) r a b c

pub end_small : (w : Bool) (is : List Datum) (n : ℕ) (c : Exact × ℕ) → End_read w is n (Ok c) → c.1 ≤ 1
end_small w is n c (end_read l s o a) = s

pub end_within : (w : Bool) (ds : List Data) (n : ℕ) (c : Exact × ℕ) → End_read w (held_all ds) n (Ok c) → c.1 ≤ length ds
end_within w ds n c (end_read l s o a) = omega (arith, held_length ds)

pub ruleset asking = (end_fails, at_first, at_fails, back_first, slice_asked, slice_refused, end_small, end_within)

-- ---- all parts

pub first_within : (at : Place) (p : Part) (ds : List Data) (n : ℕ) (c : Held_cut × ℕ) → First_cut at p (held_all ds) n (Ok c) → c.1 ≤ length ds
first_within at p ds n c (first_cut l k) = omega (arith, held_length ds)

pub first_part : (ps : List Part) (p : Part) → (length ps ≡ 0 → ⊥) → ps ≡ get_or ps 0 p ∷ drop 1 ps
first_part [] p l = absurd (l refl)
first_part (q ∷ ps) p l = refl

no_parts : (at : Place) (ps : List Part) (ds : List Data) (h : Shape) → length ps ≡ 0 → length ds ≡ 0 → cuts_asked at ps (held_all ds) h ≡ Val []
unfolding cuts_asked picks cuts held_all
no_parts at [] [] h l k = refl
no_parts at [] (d ∷ ds) h l k = absurd (omega arith)
no_parts at (p ∷ ps) ds h l k = absurd (omega arith)

pub none_asked : (at : Place) (ps : List Part) (ds : List Data) (h : Shape) (cs : List Cut) → length ps ≡ 0 → length ds ≡ 0 → Cuts_added (cuts_asked at ps (held_all ds) h) cs cs (Ok tt)
none_asked at ps ds h cs l k = cuts_added [] (no_parts at ps ds h l k) (sym (nothing cs))
  where
    nothing : (cs : List Cut) → cs ++ [] ≡ cs
    nothing [] = refl
    nothing (c ∷ cs) = ap (λ z. c ∷ z) (nothing cs)

module _ (at : Place) (ps : List Part) (p : Part) (l : length ps ≡ 0 → ⊥) (ds : List Data) (f : Form) (n : ℕ) (s : n ≡ size (shape_held f)) where
  pub first_refused : (e : Stop) → First_cut at (get_or ps 0 p) (held_all ds) n (Err e) → Tells (cuts_asked at ps (held_all ds) (shape_held f)) (Err e)
  first_refused _ (first_fails {r} h) = subst (λ ps. Tells (cuts_asked at ps (held_all ds) (shape_held f)) (Err (Failed r))) (sym (first_part ps p l)) (h (drop 1 ps) (shape_held f) (sym s))
  first_refused _ no_memory_first = no_memory_told

  pub push_refused : (e : Stop) (cs cs' : List Cut) → First_cut at (get_or ps 0 p) (held_all ds) n (Err e) → Cuts_added (cuts_asked at ps (held_all ds) (shape_held f)) cs cs' (Err e)
  push_refused e cs cs' h = by_told e (first_refused e h)
    where
      by_told : (e : Stop) → Tells (cuts_asked at ps (held_all ds) (shape_held f)) (Err e) → Cuts_added (cuts_asked at ps (held_all ds) (shape_held f)) cs cs' (Err e)
      by_told _ (report_told q) = cuts_fail q
      by_told _ no_memory_told = cuts_memory
      by_told _ (lost q) = cuts_lost q

  module _ (k : Form) (i : shape_held k ≡ inner (shape_held f)) where
    pub asked_first : (c : Held_cut × ℕ) (qs : List Part) (es : List Data) → qs ≡ drop 1 ps → es ≡ drop c.1 ds → First_cut at (get_or ps 0 p) (held_all ds) n (Ok c)
        → cuts_asked at ps (held_all ds) (shape_held f) ≡ and_then (cuts_asked at qs (held_all es) (shape_held k)) (λ cs. Val (cut_held c.0 ∷ cs))
    asked_first c qs es x y (first_cut m h) = ap (λ ps. cuts_asked at ps (held_all ds) (shape_held f)) (first_part ps p l) ∙ h (drop 1 ps) (shape_held f) (sym s)
        ∙ ap (λ h. and_then (cuts_asked at (drop 1 ps) (drop c.1 (held_all ds)) h) (λ cs. Val (cut_held c.0 ∷ cs))) (sym i)
        ∙ ap (λ is. and_then (cuts_asked at (drop 1 ps) is (shape_held k)) (λ cs. Val (cut_held c.0 ∷ cs))) (sym (ap held_all y ∙ held_drop ds c.1))
        ∙ ap (λ ps. and_then (cuts_asked at ps (held_all es) (shape_held k)) (λ cs. Val (cut_held c.0 ∷ cs))) (sym x)

    push_more : (c : Held_cut × ℕ) (qs : List Part) (es : List Data) (cs cs' : List Held_cut) (cs'' : List Held_cut) (r : Result (Unit {0}) Stop) → qs ≡ drop 1 ps → es ≡ drop c.1 ds → First_cut at (get_or ps 0 p) (held_all ds) n (Ok c)
        → cs' ≡ cs ++ c.0 ∷ [] → Cuts_added (cuts_asked at qs (held_all es) (shape_held k)) (cuts_held cs') (cuts_held cs'') r → Cuts_added (cuts_asked at ps (held_all ds) (shape_held f)) (cuts_held cs) (cuts_held cs'') r
    unfolding cuts_held
    push_more c qs es cs cs' cs'' r x y h u a = by_added r a
      where
        here : cuts_asked at ps (held_all ds) (shape_held f) ≡ and_then (cuts_asked at qs (held_all es) (shape_held k)) (λ cs. Val (cut_held c.0 ∷ cs))
        here = asked_first c qs es x y h

        by_added : (r : Result (Unit {0}) Stop) → Cuts_added (cuts_asked at qs (held_all es) (shape_held k)) (cuts_held cs') (cuts_held cs'') r → Cuts_added (cuts_asked at ps (held_all ds) (shape_held f)) (cuts_held cs) (cuts_held cs'') r
        by_added _ (cuts_added more q e) = cuts_added (cut_held c.0 ∷ more) (here ∙ ap (λ o. and_then o (λ cs. Val (cut_held c.0 ∷ cs))) q)
            (e ∙ ap (λ z. z ++ more) (ap (map cut_held) u ∙ map_push cut_held cs c.0) ∙ append_assoc (map cut_held cs) (cut_held c.0 ∷ []) more)
        by_added _ (cuts_fail q) = cuts_fail (here ∙ ap (λ o. and_then o (λ cs. Val (cut_held c.0 ∷ cs))) q)
        by_added _ cuts_memory = cuts_memory
        by_added r (cuts_lost q) = cuts_lost (here ∙ ap (λ o. and_then o (λ cs. Val (cut_held c.0 ∷ cs))) q)

    pub push_next : (b : Held_cut) (u : ℕ) (k' : Form) (cs cs' cs'' : List Held_cut) (r : Result (Unit {0}) Stop) → First_cut at (get_or ps 0 p) (held_all ds) n (Ok (b, u)) → cs' ≡ cs ++ b ∷ [] → k' ≡ k
        → Cuts_added (cuts_asked at (take (length ps - 1) (drop 1 ps)) (held_all (take (length ds - u) (drop u ds))) (shape_held k')) (cuts_held cs') (cuts_held cs'') r → Cuts_added (cuts_asked at ps (held_all ds) (shape_held f)) (cuts_held cs) (cuts_held cs'') r
    push_next b u k' cs cs' cs'' r h e q a = push_more (b, u) (take (length ps - 1) (drop 1 ps)) (take (length ds - u) (drop u ds)) cs cs' cs'' r (rest_of ps 1) (rest_of ds u) h e
        (subst (λ k. Cuts_added (cuts_asked at (take (length ps - 1) (drop 1 ps)) (held_all (take (length ds - u) (drop u ds))) (shape_held k)) (cuts_held cs') (cuts_held cs'') r) q a)

pub ruleset all_asked = (none_asked, push_refused, push_next, cuts_memory, first_within)
