-- A function on arguments that lie on the stack.
use Rattle.std.proofs.Common.{◌≡◌, ℕ, zero, suc, ◌+◌, ◌≤◌, List, [], ◌∷◌, ◌++◌, length, Some, Ok, Err, Result, true, refl, sym, ap, ◌∙◌, subst, arith, append_assoc}
use Rattle.fut_value.specs.Data.{Datum}
use Rattle.fut_meaning.specs.Outcomes.{Val, Fail, Wrong, exact, goes_on, stops, sticks}
use Rattle.fut_blocks.specs.Meaning.{Component, Names, bound, under, the_one, body_means}
use Rattle.fut_blocks.specs.Plain.{Body}
use Rattle.array_data.specs.declared.data.Data.{Data}
use Rattle.array_data.specs.declared.stop.Stop.{Stop}
use Rattle.array_data.specs.Held.{held_all}
use Rattle.fut_eval.specs.Answers.{Tells, told, report_told, no_memory_told, lost, IfDone, done, Kept, Runs, ran, failed, no_memory, gone, Bound, is_bound, no_memory_bound, unbound, Takes, Pushed, pushed, not_pushed, Pops_one}
use Rattle.fut_eval.specs.Primitives.{Gives, gave, gave_failure, gave_memory, gave_wrong, applies, Applied_runs, Two_runs, next_of, Next_runs}
use Rattle.fut_eval.specs.Runs.{Body_runs}
use Rattle.fut_eval.proofs.Holding.{held_length}
use Rattle.fut_eval.proofs.Steps.{body_rises, named_leads, named_wrong}
use Rattle.fut_eval.proofs.Storing.{upward_rises}
use Rattle.fut_eval.proofs.Tells.{the_is, kept_same, kept_less, kept_trans, fit_any}

module _ (budget : ℕ) (b : Body) (xs : List ℕ) (mark : ℕ) (t s t1 s1 : List Component) where
  pub apply_no_names : (e : Stop) → Takes xs mark t t1 s s1 (Err e) → Applied_runs budget b xs mark t t1 s s1 (Err e)
  unfolding Takes Applied_runs
  apply_no_names e k env n mid last below args st u nb l q p = by_names (k env n mid below args st u (let z = body_rises b mid last nb in omega arith) q p (fit_any args)).0
    where
      by_names : {e : Stop} → Bound env n mid xs args t t1 (Err e) → Gives (applies budget b xs env args) n t t1 below s1 (Err e)
      by_names no_memory_bound = gave_memory
      by_names (unbound y) = gave_wrong 0 (sticks (named_wrong xs args env (body_means true budget b) y))

  module _ (k : Takes xs mark t t1 s s1 (Ok tt)) (t2 s2 : List Component) where
    pub apply_stop : (e : Stop) → Body_runs budget b t1 t2 s1 s2 (Err e) → Applied_runs budget b xs mark t t2 s s2 (Err e)
    unfolding Takes Applied_runs Body_runs
    apply_stop e a env n mid last below args st u nb l q p = by_names (k env n mid below args st u (let z = body_rises b mid last nb in omega arith) q p (fit_any args)).0
      where
        by_run : {e : Stop} (e' : Names Component) → bound xs args env ≡ Some e' → Runs (body_means true budget b e') mid t1 t2 s1 s2 (Err e) → Gives (applies budget b xs env args) n t t2 below s2 (Err e)
        by_run e' y (failed {r} f z) = let w = named_leads xs args env e' (body_means true budget b) y (Fail r) f z in gave_failure w.0 (stops w.1)
        by_run e' y no_memory = gave_memory
        by_run e' y (gone f z) = let w = named_leads xs args env e' (body_means true budget b) y Wrong f z in gave_wrong w.0 (sticks w.1)

        by_names : Bound env n mid xs args t t1 (Ok tt) → Gives (applies budget b xs env args) n t t2 below s2 (Err e)
        by_names (is_bound e' y w x) = by_run e' y (a e' mid last w nb (let z = x.long in omega arith))
        by_names (unbound y) = gave_wrong 0 (sticks (named_wrong xs args env (body_means true budget b) y))

    pub apply_over : (s3 : List Component) (r : Result Datum Stop) → Body_runs budget b t1 t2 s1 s2 (Ok tt) → Pops_one mark s2 s3 r → Applied_runs budget b xs mark t t2 s s3 r
    unfolding Takes Applied_runs Body_runs Pops_one
    apply_over s3 r a p env n mid last below args st u nb l q o = let c = k env n mid below args st u (let z = body_rises b mid last nb in omega arith) q o (fit_any args) in by_names c.0 c.1
      where
        by_pop : (vs : List Component) (f : ℕ) (r : Result Datum Stop) → Kept n t t2 → under xs args env (body_means true budget b) (Val vs) f → Tells (the_one vs) r → IfDone (s3 ≡ below) r → Gives (applies budget b xs env args) n t t2 below s3 r
        by_pop vs f (Ok w) i y (told e) (done x) = gave (f + 0) (goes_on y (the_is (the_one vs) (Val w) e)) i x
        by_pop vs f (Ok w) i y (lost e) x = gave_wrong (f + 0) (goes_on y (the_is (the_one vs) Wrong e))
        by_pop vs f (Err _) i y (report_told {r} e) x = gave_failure (f + 0) (goes_on y (the_is (the_one vs) (Fail r) e))
        by_pop vs f (Err _) i y no_memory_told x = gave_memory
        by_pop vs f (Err e') i y (lost e) x = gave_wrong (f + 0) (goes_on y (the_is (the_one vs) Wrong e))

        by_run : (e' : Names Component) → bound xs args env ≡ Some e' → n ≤ mid → Kept n t t1 → s1 ≡ below → Runs (body_means true budget b e') mid t1 t2 s1 s2 (Ok tt) → Gives (applies budget b xs env args) n t t2 below s3 r
        by_run e' y i x j (ran vs f h _ g z) =
            let w = named_leads xs args env e' (body_means true budget b) y (Val vs) f z in
            let c = p below vs (h ∙ ap (λ z. z ++ vs) j) o in
            by_pop vs w.0 r (kept_trans n t t1 t2 x (kept_less n mid t1 t2 i g)) w.1 c.0 c.1
        by_run e' y i x j (gone f z) = let w = named_leads xs args env e' (body_means true budget b) y Wrong f z in gave_wrong w.0 (sticks w.1)

        by_names : Bound env n mid xs args t t1 (Ok tt) → IfDone {X = Unit {0}} (s1 ≡ below) (Ok tt) → Gives (applies budget b xs env args) n t t2 below s3 r
        by_names (is_bound e' y w x) (done j) = by_run e' y (upward_rises n xs mid u) x j (a e' mid last w nb (let z = x.long in omega arith))
        by_names (unbound y) j = gave_wrong 0 (sticks (named_wrong xs args env (body_means true budget b) y))

pub ruleset applying = (apply_no_names, apply_stop, apply_over)

-- ---- two arguments

module _ (budget : ℕ) (b : Body) (xs : List ℕ) (d e : Datum) (t : List Component) where
  pub two_no_room : (c : Datum) (s0 s s1 : List Component) (x : Stop) → Pushed c s s1 (Err x) → Two_runs budget b xs d e t t s0 s1 (Err x)
  unfolding Two_runs
  two_no_room c s0 s s1 _ not_pushed env n mid last st u nb l = gave_memory

  pub two_applied : (s : List Data) (s1 s2 s3 t1 : List Component) (mark : ℕ) (r : Result Datum Stop) → mark ≡ length s → Pushed d (held_all s) s1 (Ok tt) → Pushed e s1 s2 (Ok tt) → Applied_runs budget b xs mark t t1 s2 s3 r → Two_runs budget b xs d e t t1 (held_all s) s3 r
  unfolding Two_runs Applied_runs
  two_applied s s1 s2 s3 t1 mark r m (pushed p) (pushed q) a env n mid last st u nb l =
      a env n mid last (held_all s) (d ∷ e ∷ []) st u nb l (q ∙ ap (λ z. z ++ e ∷ []) p ∙ append_assoc (held_all s) (d ∷ []) (e ∷ [])) (held_length s ∙ sym m)

pub ruleset on_two = (two_no_room, two_applied)

-- ---- one step of a fold

module _ (budget : ℕ) (b : Body) (xs : List ℕ) (i : ℕ) (acc x : Datum) (t : List Component) where
  pub next_first : (s : List Component) → i ≡ 0 → Next_runs budget b xs i acc x t t s s (Ok x)
  unfolding Next_runs
  next_first s e env n mid last st u nb l = subst (λ z. Gives (next_of z (applies budget b xs env) acc x) n t t s s (Ok x)) (sym e) (gave 0 exact (kept_same n t) refl)

  pub next_applied : (s s1 t1 : List Component) (r : Result Datum Stop) → (i ≡ 0 → ⊥) → Two_runs budget b xs acc x t t1 s s1 r → Next_runs budget b xs i acc x t t1 s s1 r
  unfolding Next_runs Two_runs
  next_applied s s1 t1 r j a env n mid last st u nb l = by_index i j (a env n mid last st u nb l)
    where
      by_index : (i : ℕ) → (i ≡ 0 → ⊥) → Gives (applies budget b xs env (acc ∷ x ∷ [])) n t t1 s s1 r → Gives (next_of i (applies budget b xs env) acc x) n t t1 s s1 r
      by_index zero j h = absurd (j refl)
      by_index (suc i) j h = h

pub ruleset next_steps = (next_first, next_applied)
