-- Rows that are combined with those at their indices, one after the other: what stands at each place is a fold.
use Rattle.std.proofs.Common.{◌≡◌, ℕ, zero, suc, ◌+◌, ◌≤◌, List, [], ◌∷◌, ◌++◌, length, drop, take, slice_get, Option, Some, None, Ok, Err, true, refl, sym, ap, ◌∙◌, subst, arith, add-one, inl, inr}
use Rattle.std.specs.Prelude.{ℤ, pos, negsuc, slice_set, ◌⊎◌}
use Rattle.std.proofs.lemmas.List.{append-nil, take_all}
use Rattle.std.proofs.lemmas.Option.{slice_get_within}
use Rattle.fut_scalar.specs.declared.report.Report.{Report}
use Rattle.fut_value.specs.Data.{Datum}
use Rattle.fut_meaning.specs.Arrays.{each_out, exact_of}
use Rattle.fut_meaning.specs.Jobs.{Applied, all_of, places, writes, and_write, written_at}
use Rattle.fut_meaning.specs.Outcomes.{Val, Fail, Wrong, Rel, exact, gives, Then, goes_on, stops, sticks, both, stops_left, stops_right, sticks_left, sticks_right}
use Rattle.fut_blocks.specs.Meaning.{Component, Names}
use Rattle.fut_blocks.specs.Numbered.{Upward, Body_numbered}
use Rattle.fut_blocks.specs.Plain.{Body}
use Rattle.array_data.specs.declared.data.Data.{Data}
use Rattle.array_data.specs.declared.sizes.Exact.{Exact}
use Rattle.array_data.specs.declared.sizes.Exact.TheVariants as an_exact
use Rattle.array_data.specs.declared.stop.Stop.{Stop}
use Rattle.array_data.specs.declared.stop.Stop.TheVariants.{Memory}
use Rattle.array_data.specs.Answers.{exact_held, Row_is, row_is, no_memory_row}
use Rattle.array_data.specs.Changes.{Found, found, not_found, as_found, Replaced, replaced, not_replaced}
use Rattle.array_data.specs.Held.{held, rows_in}
use Rattle.array_primitives.specs.Plans.{and_old}
use Rattle.array_primitives.specs.Writes.{Index_at}
use Rattle.array_primitives.proofs.Scattering.{read_long, same_or_not}
use Rattle.array_primitives.proofs.Writing.{get_set, get_other, set_long, none_past, some_there, written_there, written_elsewhere, written_join, no_write, one_write, writes_more, writes_cut}
use Rattle.fut_eval.specs.Answers.{Answer, Stands, Kept}
use Rattle.fut_eval.specs.Primitives.{Gives, gave, gave_failure, gave_memory, gave_wrong, applies, Two_runs, reduction, combined_with, write_of, leaving, Write_runs, Combine_runs}
use Rattle.fut_eval.proofs.Folding.{Folded, folded_first, folded_more, fold_value, next_fails, next_wrong}
use Rattle.fut_eval.proofs.Tells.{kept_same, kept_trans, stands_kept}

-- ---- what stands at each place

pub record Cells (f : Applied) (ne : Datum) (old : List Datum) (ws : List (ℕ × Datum)) (cells : List Datum) : Type 0 where
  pub long : length cells ≡ length old
  pub each : (k : ℕ) (o a : Datum) → slice_get old k ≡ Some o → slice_get cells k ≡ Some a → Folded f ne (o ∷ written_at k ws) a

module _ (f : Applied) (ne : Datum) (old : List Datum) where
  cells_start : Cells f ne old [] old
  cells_start = record { long = refl; each = λ k o a e q. let p : o ≡ a = cc in subst (λ z. Folded f ne (o ∷ []) z) p (folded_first f ne o) }

  module _ (ws : List (ℕ × Datum)) (cells : List Datum) (h : Cells f ne old ws cells) where
    cells_same : (us : List (ℕ × Datum)) → us ≡ [] → Cells f ne old (ws ++ us) cells
    cells_same us e = subst (λ z. Cells f ne old z cells) (sym (append-nil ws) ∙ ap (λ z. ws ++ z) (sym e)) h

    -- one more at a place
    cells_set : (k : ℕ) (a v w : Datum) (n : ℕ) → slice_get cells k ≡ Some a → f (a ∷ v ∷ []) (Val w) n → Cells f ne old (ws ++ (k, v) ∷ []) (slice_set cells k w)
    cells_set k a v w n e y = record { long = set_long cells k w ∙ h.long; each = λ i o b p q. by_place i o b p q (same_or_not k i) }
      where
        by_place : (i : ℕ) (o b : Datum) → slice_get old i ≡ Some o → slice_get (slice_set cells k w) i ≡ Some b → (k ≡ i) ⊎ (k ≡ i → ⊥) → Folded f ne (o ∷ written_at i (ws ++ (k, v) ∷ [])) b
        by_place i o b p q (inl x) =
            let t : slice_get (slice_set cells k w) k ≡ Some w = get_set cells k w (slice_get_within cells k a e) in
            let t' : slice_get (slice_set cells k w) k ≡ Some b = ap (slice_get (slice_set cells k w)) x ∙ q in
            let j : w ≡ b = cc in
            subst (λ z. Folded f ne (o ∷ written_at i (ws ++ (k, v) ∷ [])) z) j (subst (λ z. Folded f ne (o ∷ z) w) (sym (written_there k i v ws x))
            (folded_more f ne (o ∷ written_at i ws) a v w n (h.each i o a p (ap (slice_get cells) (sym x) ∙ e)) y))
        by_place i o b p q (inr x) = subst (λ z. Folded f ne (o ∷ z) b) (sym (written_elsewhere k i v ws x)) (h.each i o b p (sym (get_other cells k i w x) ∙ q))

-- ---- what the reductions at all places come to

module _ (g : List Datum → Rel Datum) (ws : List (ℕ × Datum)) where
  place_fails : (old : List Datum) (s k : ℕ) (o : Datum) (r : Report) (n : ℕ) → slice_get old k ≡ Some o → g (o ∷ written_at (s + k) ws) (Fail r) n → (m : ℕ) × all_of g (places and_old s old ws) (Fail r) m
  place_fails [] s k o r n e h = cc
  place_fails (x ∷ old) s zero o r n e h = let q : o ≡ x = cc in let p : s + 0 ≡ s = omega arith in (n, stops_left (subst (λ z. g (z ∷ written_at s ws) (Fail r) n) q (subst (λ z. g (o ∷ written_at z ws) (Fail r) n) p h)))
  place_fails (x ∷ old) s (suc k) o r n e h = let p : s + suc k ≡ suc s + k = omega arith in let z = place_fails old (suc s) k o r n e (subst (λ z. g (o ∷ written_at z ws) (Fail r) n) p h) in (z.0, stops_right z.1)

  place_wrong : (old : List Datum) (s k : ℕ) (o : Datum) (n : ℕ) → slice_get old k ≡ Some o → g (o ∷ written_at (s + k) ws) Wrong n → (m : ℕ) × all_of g (places and_old s old ws) Wrong m
  place_wrong [] s k o n e h = cc
  place_wrong (x ∷ old) s zero o n e h = let q : o ≡ x = cc in let p : s + 0 ≡ s = omega arith in (n, sticks_left (subst (λ z. g (z ∷ written_at s ws) Wrong n) q (subst (λ z. g (o ∷ written_at z ws) Wrong n) p h)))
  place_wrong (x ∷ old) s (suc k) o n e h = let p : s + suc k ≡ suc s + k = omega arith in let z = place_wrong old (suc s) k o n e (subst (λ z. g (o ∷ written_at z ws) Wrong n) p h) in (z.0, sticks_right z.1)

all_folded : (f : Applied) (ne : Datum) (ws : List (ℕ × Datum)) (old cells : List Datum) (s : ℕ) → length cells ≡ length old
    → ((k : ℕ) (o a : Datum) → slice_get old k ≡ Some o → slice_get cells k ≡ Some a → Folded f ne (o ∷ written_at (s + k) ws) a)
    → (m : ℕ) × all_of (reduction true f ne) (places and_old s old ws) (Val cells) m
all_folded f ne ws [] [] s l h = (0, exact)
all_folded f ne ws [] (c ∷ cells) s l h = absurd (omega arith)
all_folded f ne ws (o ∷ old) [] s l h = absurd (omega arith)
all_folded f ne ws (o ∷ old) (c ∷ cells) s l h =
    let p : s + 0 ≡ s = omega arith in
    let first = subst (λ z. Folded f ne (o ∷ written_at z ws) c) p (h 0 o c refl refl) in
    let rest = all_folded f ne ws old cells (suc s) (omega arith) (λ k x a e q. let j : s + suc k ≡ suc s + k = omega arith in subst (λ z. Folded f ne (x ∷ written_at z ws) a) j (h (suc k) x a e q)) in
    (first.count + rest.0 + 0, both (fold_value f ne true (o ∷ written_at s ws) c first) rest.1 exact)

-- ---- one write

abbrev combine_all : Applied → Datum → List Datum → List (ℕ × Datum) → Rel (List Datum)
combine_all f ne old ws = all_of (reduction true f ne) (places and_old 0 old ws)

module _ (f : Applied) (ne : Datum) (old : List Datum) (ws : List (ℕ × Datum)) (cells : List Datum) (h : Cells f ne old ws cells) (v : Datum) where
  past_all : (k : ℕ) → length cells ≤ k → and_write (length old) (pos k) v [] ≡ []
  past_all k l = no_write (length old) k v (omega (arith, h.long))

  within : (k : ℕ) (a : Datum) → slice_get cells k ≡ Some a → and_write (length old) (pos k) v [] ≡ (k, v) ∷ []
  within k a e = one_write (length old) k v (omega (arith, slice_get_within cells k a e, h.long))

  write_done : (z : ℤ) (cells' : List Datum) (m : ℕ) → write_of f cells z v (Val cells') m → Cells f ne old (ws ++ and_write (length old) z v []) cells'
  write_done (negsuc k) _ _ exact = cells_same f ne old ws cells h [] refl
  write_done (pos k) cells' m y = by_row (slice_get cells k) cells' m refl y
    where
      by_new : (a w : Datum) (c e : ℕ) (cs : List Datum) → slice_get cells k ≡ Some a → f (a ∷ v ∷ []) (Val w) c → gives 0 (slice_set cells k w) (Val cs) e → Cells f ne old (ws ++ and_write (length old) (pos k) v []) cs
      by_new a w c _ _ q x exact = subst (λ u. Cells f ne old (ws ++ u) (slice_set cells k w)) (sym (within k a q)) (cells_set f ne old ws cells h k a v w c q x)

      by_row : (o : Option Datum) (cs : List Datum) (m : ℕ) → slice_get cells k ≡ o → combined_with f cells k v o (Val cs) m → Cells f ne old (ws ++ and_write (length old) (pos k) v []) cs
      by_row None _ _ q exact = cells_same f ne old ws cells h (and_write (length old) (pos k) v []) (past_all k (none_past cells k q))
      by_row (Some a) cs _ q (goes_on {a = w} {f = c} {g = e} x t) = by_new a w c e cs q x t

  module _ (us : List (ℕ × Datum)) where
    whole_at : (k i : ℕ) (o : Datum) → i ≡ k → (o ∷ written_at k ws ++ v ∷ []) ++ written_at k us ≡ o ∷ written_at i ((ws ++ (k, v) ∷ []) ++ us)
    whole_at k i o e = ap (λ z. o ∷ z) (sym (ap (λ i. written_at i ((ws ++ (k, v) ∷ []) ++ us)) e ∙ written_join k (ws ++ (k, v) ∷ []) us ∙ ap (λ z. z ++ written_at k us) (written_there k k v ws refl)))

    write_fails : (z : ℤ) (r : Report) (m : ℕ) → write_of f cells z v (Fail r) m → (c : ℕ) × combine_all f ne old ((ws ++ and_write (length old) z v []) ++ us) (Fail r) c
    write_fails (negsuc k) r m y = elim y [ ]
    write_fails (pos k) r m y = by_row (slice_get cells k) m refl y
      where
        by_new : (a : Datum) (c : ℕ) → slice_get cells k ≡ Some a → f (a ∷ v ∷ []) (Fail r) c → (c : ℕ) × combine_all f ne old ((ws ++ and_write (length old) (pos k) v []) ++ us) (Fail r) c
        by_new a c q x =
            let o = some_there old k (omega (arith, slice_get_within cells k a q, h.long)) in
            let y = next_fails f ne true (o.0 ∷ written_at k ws) a v (written_at k us) (h.each k o.0 a o.1 q) 1 r c x in
            subst (λ w. (c : ℕ) × combine_all f ne old ((ws ++ w) ++ us) (Fail r) c) (sym (within k a q))
            (place_fails (reduction true f ne) ((ws ++ (k, v) ∷ []) ++ us) old 0 k o.0 r y.0 o.1 (subst (λ z. reduction true f ne z (Fail r) y.0) (whole_at k (0 + k) o.0 (omega arith)) y.1))

        by_row : (o : Option Datum) (m : ℕ) → slice_get cells k ≡ o → combined_with f cells k v o (Fail r) m → (c : ℕ) × combine_all f ne old ((ws ++ and_write (length old) (pos k) v []) ++ us) (Fail r) c
        by_row None m q x = elim x [ ]
        by_row (Some a) _ q (stops {f = c} x) = by_new a c q x
        by_row (Some a) _ q (goes_on x t) = elim t [ ]

    write_wrong : (z : ℤ) (m : ℕ) → write_of f cells z v Wrong m → (c : ℕ) × combine_all f ne old ((ws ++ and_write (length old) z v []) ++ us) Wrong c
    write_wrong (negsuc k) m y = elim y [ ]
    write_wrong (pos k) m y = by_row (slice_get cells k) m refl y
      where
        by_new : (a : Datum) (c : ℕ) → slice_get cells k ≡ Some a → f (a ∷ v ∷ []) Wrong c → (c : ℕ) × combine_all f ne old ((ws ++ and_write (length old) (pos k) v []) ++ us) Wrong c
        by_new a c q x =
            let o = some_there old k (omega (arith, slice_get_within cells k a q, h.long)) in
            let y = next_wrong f ne true (o.0 ∷ written_at k ws) a v (written_at k us) (h.each k o.0 a o.1 q) 1 c x in
            subst (λ w. (c : ℕ) × combine_all f ne old ((ws ++ w) ++ us) Wrong c) (sym (within k a q))
            (place_wrong (reduction true f ne) ((ws ++ (k, v) ∷ []) ++ us) old 0 k o.0 y.0 o.1 (subst (λ z. reduction true f ne z Wrong y.0) (whole_at k (0 + k) o.0 (omega arith)) y.1))

        by_row : (o : Option Datum) (m : ℕ) → slice_get cells k ≡ o → combined_with f cells k v o Wrong m → (c : ℕ) × combine_all f ne old ((ws ++ and_write (length old) (pos k) v []) ++ us) Wrong c
        by_row None m q x = elim x [ ]
        by_row (Some a) _ q (sticks {f = c} x) = by_new a c q x
        by_row (Some a) _ q (goes_on x t) = elim t [ ]

-- ---- the run of one write

module _ (budget : ℕ) (b : Body) (xs : List ℕ) (x : Exact) (v : Datum) (cells : List Datum) (t : List Component) where
  pub write_below : (k : ℕ) (s : List Component) → x ≡ an_exact.Below k → Write_runs budget b xs (exact_held x) v cells cells t t s s (Ok tt)
  unfolding Write_runs exact_held
  write_below k s e env n mid last st u nb l = subst (λ z. Gives (write_of (applies budget b xs env) cells (exact_held z) v) n t t s s (leaving cells (Ok tt))) (sym e) (gave 0 exact (kept_same n t) refl)

  module _ (k : ℕ) (e : x ≡ an_exact.Natural k) where
    at_place : (f : Applied) (o : Option Datum) → slice_get cells k ≡ o → write_of f cells (exact_held x) v ≡ combined_with f cells k v o
    unfolding exact_held
    at_place f o q = ap (λ z. write_of f cells (exact_held z) v) e ∙ ap (combined_with f cells k v) q

    pub write_none : (o : Option Data) (s : List Component) → Found cells k (as_found (Ok o)) → o ≡ None → Write_runs budget b xs (exact_held x) v cells cells t t s s (Ok tt)
    unfolding Write_runs
    write_none o s g q env n mid last st u nb l = by_found (subst (λ o. Found cells k (as_found (Ok o))) q g)
      where
        by_found : Found cells k (Ok None) → Gives (write_of (applies budget b xs env) cells (exact_held x) v) n t t s s (leaving cells (Ok tt))
        by_found (found p) = subst (λ m. Gives m n t t s s (Ok cells)) (sym (at_place (applies budget b xs env) None p)) (gave 0 exact (kept_same n t) refl)

    pub write_no_row : (s : List Component) (e' : Stop) → Found cells k (as_found (Err e')) → Write_runs budget b xs (exact_held x) v cells cells t t s s (Err e')
    unfolding Write_runs
    write_no_row s _ not_found env n mid last st u nb l = gave_memory

    module _ (o : Option Data) (a : Data) (g : Found cells k (as_found (Ok o))) (q : o ≡ Some a) (t1 s s1 : List Component) where
      there : slice_get cells k ≡ Some (held a)
      there = by_found (subst (λ o. Found cells k (as_found (Ok o))) q g)
        where
          by_found : Found cells k (Ok (Some (held a))) → slice_get cells k ≡ Some (held a)
          by_found (found p) = p

      abbrev new_rows : Applied → Rel (List Datum)
      new_rows f = Then (f (held a ∷ v ∷ [])) (λ w. gives 0 (slice_set cells k w))

      pub write_stop : (e' : Stop) → Two_runs budget b xs (held a) v t t1 s s1 (Err e') → Write_runs budget b xs (exact_held x) v cells cells t t1 s s1 (Err e')
      unfolding Write_runs Two_runs
      write_stop e' h env n mid last st u nb l = subst (λ m. Gives m n t t1 s s1 (Err e')) (sym (at_place (applies budget b xs env) (Some (held a)) there)) (by_two (h env n mid last st u nb l))
        where
          by_two : {e' : Stop} → Gives (applies budget b xs env (held a ∷ v ∷ [])) n t t1 s s1 (Err e') → Gives (new_rows (applies budget b xs env)) n t t1 s s1 (Err e')
          by_two (gave_failure c y) = gave_failure c (stops y)
          by_two gave_memory = gave_memory
          by_two (gave_wrong c y) = gave_wrong c (sticks y)

      pub write_set : (w : Datum) (cells' : List Datum) (r : Answer) → Two_runs budget b xs (held a) v t t1 s s1 (Ok w) → Replaced k w cells cells' r → Write_runs budget b xs (exact_held x) v cells cells' t t1 s s1 r
      unfolding Write_runs Two_runs
      write_set w cells' r h p env n mid last st u nb l = subst (λ m. Gives m n t t1 s s1 (leaving cells' r)) (sym (at_place (applies budget b xs env) (Some (held a)) there)) (by_two (h env n mid last st u nb l) p)
        where
          by_two : {r : Answer} → Gives (applies budget b xs env (held a ∷ v ∷ [])) n t t1 s s1 (Ok w) → Replaced k w cells cells' r → Gives (new_rows (applies budget b xs env)) n t t1 s s1 (leaving cells' r)
          by_two (gave c y kr qr) (replaced i) = subst (λ z. Gives (new_rows (applies budget b xs env)) n t t1 s s1 (Ok z)) (sym i) (gave (c + 0) (goes_on y exact) kr qr)
          by_two (gave c y kr qr) not_replaced = gave_memory
          by_two (gave_wrong c y) i = gave_wrong c (sticks y)

pub ruleset writes_one = (write_below, write_none, write_no_row, write_stop, write_set)

-- ---- the run of all writes

pub data Combining (f : Applied) (ne : Datum) (old : List Datum) (ws all : List (ℕ × Datum)) (cells : List Datum) (n : ℕ) (t0 t s0 s : List Component) : Type 0 where
  combining : s ≡ s0 → Kept n t0 t → Cells f ne old ws cells → Combining f ne old ws all cells n t0 t s0 s
  combine_gone : (m : ℕ) → combine_all f ne old all Wrong m → Combining f ne old ws all cells n t0 t s0 s

unfoldable pub Combine_goes : ℕ → Body → List ℕ → List Datum → (is vs : Datum) → ℕ → ℕ → List Datum → (t0 t s0 s : List Component) → Type 0
Combine_goes budget b xs old is vs n i cells t0 t s0 s =
    (ne : Datum) (zs : List ℤ) → each_out exact_of (rows_in is) ≡ Val zs → n ≡ length (rows_in is) → n ≡ length (rows_in vs)
    → (env : Names Component) (next mid last : ℕ) → Stands env next t0 → Upward next xs mid → Body_numbered mid b last → last ≤ length t0
    → Combining (applies budget b xs env) ne old (writes (length old) (take i zs) (take i (rows_in vs))) (writes (length old) zs (rows_in vs)) cells next t0 t s0 s

module _ (budget : ℕ) (b : Body) (xs : List ℕ) (old : List Datum) (is vs : Datum) (n : ℕ) where
  pub combine_memory : (t t' s s' : List Component) → Combine_runs budget b xs old is vs n t t' s s' (Err Memory)
  unfolding Combine_runs
  combine_memory t t' s s' ne zs q p p' env next mid last st u nb l = gave_memory

  pub combine_start : (cells : List Datum) (t s : List Component) → cells ≡ old → Combine_goes budget b xs old is vs n 0 cells t t s s
  unfolding Combine_goes
  combine_start cells t s e ne zs q p p' env next mid last st u nb l =
      combining refl (kept_same next t) (subst (λ z. Cells (applies budget b xs env) ne old [] z) (sym e) (cells_start (applies budget b xs env) ne old))

  pub combine_no_row : (i : ℕ) (t0 t s0 s : List Component) (e : Stop) → Row_is vs i (Err e) → Combine_runs budget b xs old is vs n t0 t s0 s (Err e)
  combine_no_row i t0 t s0 s _ no_memory_row = combine_memory t0 t s0 s

  module _ (i : ℕ) (cells : List Datum) (t0 t s0 s : List Component) (h : Combine_goes budget b xs old is vs n i cells t0 t s0 s) where
    module _ (x : Exact) (v : Datum) (cells' : List Datum) (t1 s1 : List Component) (j : Index_at (rows_in is) i x) (g : Row_is vs i (Ok v)) where
      pub combine_stop : (e : Stop) → Write_runs budget b xs (exact_held x) v cells cells' t t1 s s1 (Err e) → Combine_runs budget b xs old is vs n t0 t1 s0 s1 (Err e)
      unfolding Combine_goes Write_runs Combine_runs Index_at
      combine_stop e a ne zs q p p' env next mid last st u nb l = by_get g
        where
          F : Applied
          F = applies budget b xs env

          n' : ℕ
          n' = length old

          by_write : {e : Stop} → slice_get (rows_in vs) i ≡ Some v → Cells F ne old (writes n' (take i zs) (take i (rows_in vs))) cells → Gives (write_of F cells (exact_held x) v) next t t1 s s1 (Err e)
              → Gives (combine_all F ne old (writes n' zs (rows_in vs))) next t0 t1 s0 s1 (Err e)
          by_write k c (gave_failure {r} m y) =
              let z = write_fails F ne old (writes n' (take i zs) (take i (rows_in vs))) cells c v (writes n' (drop (suc i) zs) (drop (suc i) (rows_in vs))) (exact_held x) r m y in
              gave_failure z.0 (subst (λ w. combine_all F ne old w (Fail r) z.0) (sym (writes_cut n' zs (rows_in vs) i (exact_held x) v (j zs q) k)) z.1)
          by_write k c gave_memory = gave_memory
          by_write k c (gave_wrong m y) =
              let z = write_wrong F ne old (writes n' (take i zs) (take i (rows_in vs))) cells c v (writes n' (drop (suc i) zs) (drop (suc i) (rows_in vs))) (exact_held x) m y in
              gave_wrong z.0 (subst (λ w. combine_all F ne old w Wrong z.0) (sym (writes_cut n' zs (rows_in vs) i (exact_held x) v (j zs q) k)) z.1)

          by_combining : slice_get (rows_in vs) i ≡ Some v → Combining F ne old (writes n' (take i zs) (take i (rows_in vs))) (writes n' zs (rows_in vs)) cells next t0 t s0 s → Gives (combine_all F ne old (writes n' zs (rows_in vs))) next t0 t1 s0 s1 (Err e)
          by_combining k (combining w f c) = by_write k c (a env next mid last (stands_kept env next t0 t st f) u nb (let z = f.long in omega arith))
          by_combining k (combine_gone m y) = gave_wrong m y

          by_get : Row_is vs i (Ok v) → Gives (combine_all F ne old (writes n' zs (rows_in vs))) next t0 t1 s0 s1 (Err e)
          by_get (row_is k) = by_combining k (h ne zs q p p' env next mid last st u nb l)

      pub combine_more : Write_runs budget b xs (exact_held x) v cells cells' t t1 s s1 (Ok tt) → Combine_goes budget b xs old is vs n (i + 1) cells' t0 t1 s0 s1
      unfolding Combine_goes Write_runs Index_at
      combine_more a ne zs q p p' env next mid last st u nb l =
          subst (λ z. Combining (applies budget b xs env) ne old (writes (length old) (take z zs) (take z (rows_in vs))) (writes (length old) zs (rows_in vs)) cells' next t0 t1 s0 s1) (sym (add-one i)) (by_get g)
        where
          F : Applied
          F = applies budget b xs env

          n' : ℕ
          n' = length old

          by_write : slice_get (rows_in vs) i ≡ Some v → s ≡ s0 → Kept next t0 t → Cells F ne old (writes n' (take i zs) (take i (rows_in vs))) cells → Gives (write_of F cells (exact_held x) v) next t t1 s s1 (Ok cells')
              → Combining F ne old (writes n' (take (suc i) zs) (take (suc i) (rows_in vs))) (writes n' zs (rows_in vs)) cells' next t0 t1 s0 s1
          by_write k w f c (gave m y kr qr) =
              combining (qr ∙ w) (kept_trans next t0 t t1 f kr) (subst (λ z. Cells F ne old z cells') (sym (writes_more n' zs (rows_in vs) i (exact_held x) v (j zs q) k))
              (write_done F ne old (writes n' (take i zs) (take i (rows_in vs))) cells c v (exact_held x) cells' m y))
          by_write k w f c (gave_wrong m y) =
              let z = write_wrong F ne old (writes n' (take i zs) (take i (rows_in vs))) cells c v (writes n' (drop (suc i) zs) (drop (suc i) (rows_in vs))) (exact_held x) m y in
              combine_gone z.0 (subst (λ w. combine_all F ne old w Wrong z.0) (sym (writes_cut n' zs (rows_in vs) i (exact_held x) v (j zs q) k)) z.1)

          by_combining : slice_get (rows_in vs) i ≡ Some v → Combining F ne old (writes n' (take i zs) (take i (rows_in vs))) (writes n' zs (rows_in vs)) cells next t0 t s0 s
              → Combining F ne old (writes n' (take (suc i) zs) (take (suc i) (rows_in vs))) (writes n' zs (rows_in vs)) cells' next t0 t1 s0 s1
          by_combining k (combining w f c) = by_write k w f c (a env next mid last (stands_kept env next t0 t st f) u nb (let z = f.long in omega arith))
          by_combining k (combine_gone m y) = combine_gone m y

          by_get : Row_is vs i (Ok v) → Combining F ne old (writes n' (take (suc i) zs) (take (suc i) (rows_in vs))) (writes n' zs (rows_in vs)) cells' next t0 t1 s0 s1
          by_get (row_is k) = by_combining k (h ne zs q p p' env next mid last st u nb l)

    pub combine_end : n ≤ i → Combine_runs budget b xs old is vs n t0 t s0 s (Ok cells)
    unfolding Combine_goes Combine_runs
    combine_end m ne zs q p p' env next mid last st u nb l = by_combining (h ne zs q p p' env next mid last st u nb l)
      where
        F : Applied
        F = applies budget b xs env

        n' : ℕ
        n' = length old

        all_taken : writes n' (take i zs) (take i (rows_in vs)) ≡ writes n' zs (rows_in vs)
        all_taken = ap (λ z. writes n' z (take i (rows_in vs))) (take_all i zs (omega (arith, read_long (rows_in is) zs q))) ∙ ap (writes n' zs) (take_all i (rows_in vs) (omega arith))

        by_combining : Combining F ne old (writes n' (take i zs) (take i (rows_in vs))) (writes n' zs (rows_in vs)) cells next t0 t s0 s → Gives (combine_all F ne old (writes n' zs (rows_in vs))) next t0 t s0 s (Ok cells)
        by_combining (combining w f c) =
            let e = subst (λ z. Cells F ne old z cells) all_taken c in
            let z = all_folded F ne (writes n' zs (rows_in vs)) old cells 0 e.long (λ k o a x y. let j : k ≡ 0 + k = omega arith in subst (λ z. Folded F ne (o ∷ written_at z (writes n' zs (rows_in vs))) a) j (e.each k o a x y)) in
            gave z.0 z.1 f w
        by_combining (combine_gone o y) = gave_wrong o y

pub ruleset writes_combined = (combine_memory, combine_start, combine_no_row, combine_stop, combine_more, combine_end)
