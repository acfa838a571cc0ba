-- Rows of chunks, one behind the other, and what a map gives.
use Rattle.std.proofs.Common.{◌≡◌, ℕ, zero, suc, ◌+◌, ◌<◌, ◌≤◌, ◌++◌, List, [], ◌∷◌, refl, sym, ap, ◌∙◌, subst, arith}
use Rattle.fut_scalar.specs.declared.report.Report.{Report}
use Rattle.fut_meaning.specs.Outcomes.{Val, Fail, exact, gives, goes_on, stops, each_of}
use Rattle.outcomes.specs.Stages.{Stages, staged, Fails_at, Ends_with}
use Rattle.outcomes.proofs.Each.{each_fails}
use Rattle.phase_code.specs.declared.outcome.Made.{Made}
use Rattle.phase_code.specs.declared.outcome.StageFault.{StageFault}
use Rattle.phase_code.specs.declared.outcome.Chunk.TheVariants.{Came, Failed}
use Rattle.phase_code.specs.Ranges.{Function, range, Came_to, Fault_of, Kept, Never}
use Rattle.worker_runtime.specs.Phases.{Is_map}
use Rattle.worker_runtime.proofs.Joined.{range_none, nothing_ends, came_both}

module _ {A W : Type 0} (rows : W → List A) (fn : Function A) where
  pub kept_none : (m : Made W) → rows m.words ≡ [] → m.handed ≡ 0 → Came_to rows fn Kept 0 0 m
  kept_none m e z = (0, omega arith, subst (λ l. Ends_with fn.means (Kept (rows m.words)) 0 fn.stages l 0) (sym (range_none fn.row 0)) (nothing_ends fn.means (Kept (rows m.words)) (sym e, refl) fn.stages 0))

  pub kept_both : (lo mid hi : ℕ) (m n o : Made W) → lo ≤ mid → mid ≤ hi → rows o.words ≡ rows m.words ++ rows n.words → o.handed ≤ m.handed + n.handed → Came_to rows fn Kept lo mid m → Came_to rows fn Kept mid hi n → Came_to rows fn Kept lo hi o
  kept_both lo mid hi m n o low high e le p q = came_both fn rows Kept Kept Kept lo mid hi 0 m n o low high (omega arith) (λ ys zs i j k l. (ap (λ a. a ++ zs) k.0 ∙ ap (λ a. rows m.words ++ a) l.0 ∙ sym e, (let s = k.1 in let t = l.1 in omega arith))) p q

ends_kept : {A : Type 0} (g : Stages A) (ws : List A) (n k : ℕ) (xs : List A) (h : ℕ) → Ends_with g (Kept ws) k n xs h → staged g k n xs (Val ws) h
ends_kept g ws zero k xs h e = subst (λ l. gives 0 xs (Val l) h) e.0 (subst (λ a. gives 0 xs (Val xs) a) (sym e.1) exact)
ends_kept g ws (suc n) k xs h e = subst (λ a. staged g k (suc n) xs (Val ws) a) (sym e.3) (goes_on {f = e.1} {g = e.2} e.4 (ends_kept g ws n (suc k) e.0 e.2 e.5))

never_means : {A : Type 0} (g : Stages A) (n k : ℕ) (xs : List A) (s e : ℕ) (r : Report) → Fails_at g Never k n xs s e r → (f : ℕ) × staged g k n xs (Fail r) f
never_means g zero k xs zero e r h = absurd h
never_means g zero k xs (suc s) e r h = absurd h
never_means g (suc n) k xs zero e r h =
    let q = each_fails (g k) h.before h.after h.values h.x r h.count h.counted h.come h.fails in
    (q.0, stops (subst (λ l. each_of (g k) l (Fail r) q.0) (sym h.parts) q.1))
never_means g (suc n) k xs (suc s) e r h =
    let q = never_means g n (suc k) h.values s e r h.goes_on in
    (h.count + q.0, goes_on {f = h.count} {g = q.0} h.come q.1)

module _ {A W : Type 0} (rows : W → List A) (fn : Function A) (count : ℕ) where
  pub is_map_came : (m : Made W) → Came_to rows fn Kept 0 count m → Is_map rows fn count (Came m)
  is_map_came m p = (p.0, p.1, ends_kept fn.means (rows m.words) fn.stages 0 (range fn.row 0 count) p.0 p.2)

  pub is_map_failed : (w : StageFault) → Fault_of fn Never 0 count w → Is_map rows fn count (Failed w)
  is_map_failed w p = let q = never_means fn.means fn.stages 0 (range fn.row 0 count) w.stage p.0 w.report p.2 in (p, q.0, q.1)
