-- Turns of loops.
use Rattle.std.proofs.Common.{◌≡◌, ℕ, zero, suc, ◌+◌, ◌-◌, ◌<◌, ◌≤◌, ◌^◌, drop, slice_get, List, [], ◌∷◌, ◌++◌, length, take, slice_set, Bool, true, false, Some, Result, Ok, Err, sym, ap, ◌∙◌, subst, arith, add-one}
use Rattle.std.proofs.Math.Seq.{take-append_seam}
use Rattle.std.proofs.lemmas.List.{length-set}
use Rattle.fut_scalar.specs.Integers.{width_of}
use Rattle.fut_scalar.specs.declared.place.Place.{Place}
use Rattle.fut_scalar.specs.declared.report.FailKind.TheVariants as kind
use Rattle.fut_scalar.specs.declared.report.Report.{Report}
use Rattle.fut_scalar.specs.declared.scalar.IntType.{IntType}
use Rattle.fut_scalar.specs.declared.scalar.Scalar.TheVariants as scalar
use Rattle.fut_meaning.specs.Meaning.{counts}
use Rattle.fut_meaning.specs.Operations.{report}
use Rattle.fut_meaning.specs.Outcomes.{Val, Fail, Wrong, Rel, exact, gives, the, Then, goes_on, stops, sticks, choose, turns, while_turns}
use Rattle.fut_blocks.specs.Plain.{Body}
use Rattle.fut_blocks.specs.Meaning.{Component, Names, bound, Results, under, holds, test_turn, body_means}
use Rattle.fut_blocks.specs.Numbered.{Upward, Body_numbered}
use Rattle.array_data.specs.declared.stop.Stop.{Stop}
use Rattle.array_data.specs.declared.stop.Stop.TheVariants.{Failed, Stuck}
use Rattle.fut_eval.specs.Answers.{Answer, Tells, told, report_told, no_memory_told, lost, IfDone, done, Fit, Stands, Kept, Runs, ran, failed, no_memory, gone, Bound, is_bound, no_memory_bound, unbound, Binds, Takes, Named, named as is_named, beyond, Pops}
use Rattle.fut_eval.specs.Runs.{Body_runs, turn_means, Turn_runs, For_runs, Tested, tested, test_failed, no_memory_tested, test_gone, Test_runs, While_runs, index_turn, row_turn, Over_runs}
use Rattle.fut_eval.proofs.Tells.{the_is, Leads, leads_same, leads_trans, leads_then, leads_first, runs_in, runs_after, runs_less, kept_same, kept_less, kept_trans, stands_kept, stands_more}
use Rattle.fut_eval.proofs.Storing.{upward_rises, stands_new, kept_new}
use Rattle.fut_value.specs.Data.{Scalar_datum}
use Rattle.array_data.specs.declared.data.Data.TheVariants as hold
use Rattle.array_data.specs.declared.data.Data.{Data}
use Rattle.array_data.specs.Held.{held, held_all, rows_in}
use Rattle.array_data.specs.Answers.{Row_is, row_is, no_memory_row}
use Rattle.array_data.proofs.RowsRead.{drop_row}
use Rattle.array_data.proofs.Forms.{drop_past}
use Rattle.fut_eval.proofs.Holding.{held_length, held_take}
use Rattle.array_data.proofs.Holding.{held_scalar}
use Rattle.fut_eval.proofs.Reading.{fitted_same}
use Rattle.fut_eval.proofs.Steps.{body_rises, named_leads, named_wrong}

held_index : (ty : IntType) (j : ℕ) → j < 2 ^ width_of ty → held (hold.Scalar (scalar.Int ty j)) ≡ Scalar_datum (scalar.Int ty j)
held_index ty j h = held_scalar (scalar.Int ty j) ∙ ap Scalar_datum (fitted_same (scalar.Int ty j) h)

-- ---- one turn of a loop over indices or rows

module _ (budget : ℕ) (b : Body) (xs : List ℕ) (i : ℕ) (d : Component) (mark : ℕ) (t t1 s s1 : List Component) where
  pub turn_take_stop : (e : Stop) → Takes xs mark t t1 s s1 (Err e) → Turn_runs budget b xs i d mark t t1 s s1 (Err e)
  unfolding Takes Turn_runs
  turn_take_stop e h env n mid last below vs st u m nb l q p f = let z = body_rises b (suc i) last nb in by_names (h env n mid below vs st u (omega arith) q p f).0
    where
      by_names : {e : Stop} → Bound env n mid xs vs t t1 (Err e) → Runs (turn_means budget b xs i env d vs) n t t1 below s1 (Err e)
      by_names no_memory_bound = no_memory
      by_names (unbound y) = gone 0 (named_wrong xs vs env (λ e. body_means true budget b ((i, d) ∷ e)) y)

  module _ (h : Takes xs mark t t1 s s1 (Ok tt)) where
    pub turn_name_stop : (t2 : List Component) (e : Stop) → Named i d t1 t2 (Err e) → Turn_runs budget b xs i d mark t t2 s s1 (Err e)
    unfolding Takes Turn_runs
    turn_name_stop t2 _ (beyond g) env n mid last below vs st u m nb l q p f = let z = body_rises b (suc i) last nb in by_names (h env n mid below vs st u (omega arith) q p f).0
      where
        by_names : Bound env n mid xs vs t t1 (Ok tt) → Runs (turn_means budget b xs i env d vs) n t t2 below s1 (Err Stuck)
        by_names (is_bound e y w x) = let z = body_rises b (suc i) last nb in absurd (omega (arith, x.long))
        by_names (unbound y) = gone 0 (named_wrong xs vs env (λ e. body_means true budget b ((i, d) ∷ e)) y)

    pub turn_done : (t2 t3 s3 : List Component) (r : Answer) → Named i d t1 t2 (Ok tt) → Body_runs budget b t2 t3 s1 s3 r → Turn_runs budget b xs i d mark t t3 s s3 r
    unfolding Takes Turn_runs Body_runs
    turn_done t2 t3 s3 r (is_named g) k env n mid last below vs st u m nb l q p f =
        let z = body_rises b (suc i) last nb in let c = h env n mid below vs st u (omega arith) q p f in by_names g c.0 c.1
      where
        by_names : t2 ≡ slice_set t1 i d → Bound env n mid xs vs t t1 (Ok tt) → IfDone {X = Unit {0}} (s1 ≡ below) (Ok tt) → Runs (turn_means budget b xs i env d vs) n t t3 below s3 r
        by_names g (is_bound e y w x) (done a) =
            let z = body_rises b (suc i) last nb in
            let v = upward_rises n xs mid u in
            let inner : Names Component = (i, d) ∷ e in
            let long : length (slice_set t1 i d) ≡ length t1 = length-set t1 i d in
            let room : i < length t1 = omega (arith, x.long) in
            let st2 : Stands inner (suc i) t2 = subst (Stands inner (suc i)) (sym g) (stands_new e mid i d t1 w m room tt) in
            let kept2 : Kept n t1 t2 = subst (Kept n t1) (sym g) (kept_new n i d t1 (omega arith)) in
            let wide : last ≤ length t2 = omega (arith, kept2.long, x.long) in
            let y2 : Runs (body_means true budget b inner) n t2 t3 below s3 r = subst (λ z. Runs (body_means true budget b inner) n t2 t3 z s3 r) a (runs_less (body_means true budget b inner) n (suc i) t2 t3 s1 s3 r (omega arith) (k inner (suc i) last st2 nb wide)) in
            runs_in n t t3 below s3 (turn_means budget b xs i env d vs) (body_means true budget b inner) r (named_leads xs vs env e (λ e. body_means true budget b ((i, d) ∷ e)) y)
            (runs_after (body_means true budget b inner) n t t2 t3 below s3 r (kept_trans n t t1 t2 x kept2) y2)
        by_names g (unbound y) a = gone 0 (named_wrong xs vs env (λ e. body_means true budget b ((i, d) ∷ e)) y)

pub ruleset one_turn = (turn_take_stop, turn_name_stop, turn_done)

-- ---- the turns of a loop

-- some turns are taken: what the rest comes to, the whole may
pub data Turning (whole : Results) (rest : List Component → Results) (n : ℕ) (t0 t below s : List Component) : Type 0 where
  turning : (vs : List Component) → s ≡ below ++ vs → Fit vs → Kept n t0 t → Leads whole (rest vs) → Turning whole rest n t0 t below s
  turned_wrong : (f : ℕ) → whole Wrong f → Turning whole rest n t0 t below s

unfoldable pub For_goes : ℕ → Body → List ℕ → ℕ → IntType → ℕ → ℕ → ℕ → (t0 t s0 s : List Component) → Type 0
For_goes budget b xs i ty count mark j t0 t s0 s =
    (env : Names Component) (n mid last : ℕ) (below : List Component) (vs : List Component)
    → Stands env n t0 → Upward n xs mid → mid ≤ i → Body_numbered (suc i) b last → last ≤ length t0
    → s0 ≡ below ++ vs → length below ≡ mark → Fit vs → count < 2 ^ width_of ty
    → Turning (turns (index_turn budget b xs i ty env) (counts count 0) vs) (turns (index_turn budget b xs i ty env) (counts (count - j) j)) n t0 t below s

counts_next : (count j : ℕ) → j < count → counts (count - j) j ≡ j ∷ counts (count - suc j) (suc j)
counts_next count j l = let e : count - j ≡ suc (count - suc j) = omega arith in ap (λ k. counts k j) e

counts_none : (count j : ℕ) → count ≤ j → counts (count - j) j ≡ []
counts_none count j l = let e : count - j ≡ 0 = omega arith in ap (λ k. counts k j) e

module _ (budget : ℕ) (b : Body) (xs : List ℕ) (i : ℕ) (ty : IntType) (count mark : ℕ) where
  pub for_start : (t s : List Component) → For_goes budget b xs i ty count mark 0 t t s s
  unfolding For_goes
  for_start t s env n mid last below vs st u m nb l q p f fc =
      let e : count ≡ count - 0 = omega arith in
      turning vs q f (kept_same n t) (subst (λ k. Leads (turns (index_turn budget b xs i ty env) (counts count 0) vs) (turns (index_turn budget b xs i ty env) (counts k 0) vs)) e (leads_same (turns (index_turn budget b xs i ty env) (counts count 0) vs)))

  module _ (j : ℕ) (t0 t s0 s : List Component) (h : For_goes budget b xs i ty count mark j t0 t s0 s) where
    module _ (t1 s1 : List Component) (l : j < count) where
      pub for_stop : (e : Stop) → Turn_runs budget b xs i (held (hold.Scalar (scalar.Int ty j))) mark t t1 s s1 (Err e) → For_runs budget b xs i ty count mark t0 t1 s0 s1 (Err e)
      unfolding For_goes Turn_runs For_runs
      for_stop e k env n mid last below vs st u m nb w q p f fc = by_turning (h env n mid last below vs st u m nb w q p f fc)
        where
          whole : Results
          whole = turns (index_turn budget b xs i ty env) (counts count 0) vs

          by_turn : {e : Stop} (ws : List Component) → Leads (turns (index_turn budget b xs i ty env) (counts count 0) vs) (turns (index_turn budget b xs i ty env) (j ∷ counts (count - suc j) (suc j)) ws) → Runs (index_turn budget b xs i ty env j ws) n t t1 below s1 (Err e) → Runs (turns (index_turn budget b xs i ty env) (counts count 0) vs) n t0 t1 below s1 (Err e)
          by_turn ws g (failed {r} f y) = let z = g (Fail r) f (stops y) in failed z.0 z.1
          by_turn ws g no_memory = no_memory
          by_turn ws g (gone f y) = let z = g Wrong f (sticks y) in gone z.0 z.1

          by_turning : Turning (turns (index_turn budget b xs i ty env) (counts count 0) vs) (turns (index_turn budget b xs i ty env) (counts (count - j) j)) n t0 t below s → Runs (turns (index_turn budget b xs i ty env) (counts count 0) vs) n t0 t1 below s1 (Err e)
          by_turning (turning ws q' f' k' g) =
              by_turn ws (subst (λ z. Leads (turns (index_turn budget b xs i ty env) (counts count 0) vs) (turns (index_turn budget b xs i ty env) z ws)) (counts_next count j l) g)
              (subst (λ z. Runs (turn_means budget b xs i env z ws) n t t1 below s1 (Err e)) (held_index ty j (omega arith)) (k env n mid last below ws (stands_kept env n t0 t st k') u m nb (let z = k'.long in omega arith) q' p f'))
          by_turning (turned_wrong f y) = gone f y

      pub for_more : Turn_runs budget b xs i (held (hold.Scalar (scalar.Int ty j))) mark t t1 s s1 (Ok tt) → For_goes budget b xs i ty count mark (j + 1) t0 t1 s0 s1
      unfolding For_goes Turn_runs
      for_more k env n mid last below vs st u m nb w q p f fc =
          subst (λ z. Turning (turns (index_turn budget b xs i ty env) (counts count 0) vs) (turns (index_turn budget b xs i ty env) (counts (count - z) z)) n t0 t1 below s1) (sym (add-one j)) (by_turning (h env n mid last below vs st u m nb w q p f fc))
        where
          by_turn : (ws : List Component) → Kept n t0 t → Leads (turns (index_turn budget b xs i ty env) (counts count 0) vs) (turns (index_turn budget b xs i ty env) (j ∷ counts (count - suc j) (suc j)) ws) → Runs (index_turn budget b xs i ty env j ws) n t t1 below s1 (Ok tt) → Turning (turns (index_turn budget b xs i ty env) (counts count 0) vs) (turns (index_turn budget b xs i ty env) (counts (count - suc j) (suc j))) n t0 t1 below s1
          by_turn ws k' g (ran us f e q w y) =
              turning us e q (kept_trans n t0 t t1 k' w)
              (leads_trans (turns (index_turn budget b xs i ty env) (counts count 0) vs) (turns (index_turn budget b xs i ty env) (j ∷ counts (count - suc j) (suc j)) ws) (turns (index_turn budget b xs i ty env) (counts (count - suc j) (suc j)) us) g
              (leads_then (index_turn budget b xs i ty env j ws) (turns (index_turn budget b xs i ty env) (counts (count - suc j) (suc j))) us f y))
          by_turn ws k' g (gone f y) = let z = g Wrong f (sticks y) in turned_wrong z.0 z.1

          by_turning : Turning (turns (index_turn budget b xs i ty env) (counts count 0) vs) (turns (index_turn budget b xs i ty env) (counts (count - j) j)) n t0 t below s → Turning (turns (index_turn budget b xs i ty env) (counts count 0) vs) (turns (index_turn budget b xs i ty env) (counts (count - suc j) (suc j))) n t0 t1 below s1
          by_turning (turning ws q' f' k' g) =
              by_turn ws k' (subst (λ z. Leads (turns (index_turn budget b xs i ty env) (counts count 0) vs) (turns (index_turn budget b xs i ty env) z ws)) (counts_next count j l) g)
              (subst (λ z. Runs (turn_means budget b xs i env z ws) n t t1 below s1 (Ok tt)) (held_index ty j (omega arith)) (k env n mid last below ws (stands_kept env n t0 t st k') u m nb (let z = k'.long in omega arith) q' p f'))
          by_turning (turned_wrong f y) = turned_wrong f y

    pub for_end : count ≤ j → For_runs budget b xs i ty count mark t0 t s0 s (Ok tt)
    unfolding For_goes For_runs
    for_end l env n mid last below vs st u m nb w q p f fc = by_turning (h env n mid last below vs st u m nb w q p f fc)
      where
        by_turning : Turning (turns (index_turn budget b xs i ty env) (counts count 0) vs) (turns (index_turn budget b xs i ty env) (counts (count - j) j)) n t0 t below s → Runs (turns (index_turn budget b xs i ty env) (counts count 0) vs) n t0 t below s (Ok tt)
        by_turning (turning ws q' f' k' g) =
            let z = subst (λ z. Leads (turns (index_turn budget b xs i ty env) (counts count 0) vs) (turns (index_turn budget b xs i ty env) z ws)) (counts_none count j l) g (Val ws) 0 exact in ran ws z.0 q' f' k' z.1
        by_turning (turned_wrong f y) = gone f y

pub ruleset counted = (for_start, for_stop, for_more, for_end)

-- ---- the turns of a loop over rows

unfoldable pub Over_goes : ℕ → Body → List ℕ → ℕ → Component → ℕ → ℕ → (t0 t s0 s : List Component) → Type 0
Over_goes budget b xs i d mark j t0 t s0 s =
    (env : Names Component) (n mid last : ℕ) (below : List Component) (vs : List Component)
    → Stands env n t0 → Upward n xs mid → mid ≤ i → Body_numbered (suc i) b last → last ≤ length t0
    → s0 ≡ below ++ vs → length below ≡ mark → Fit vs
    → Turning (turns (row_turn budget b xs i env) (rows_in d) vs) (turns (row_turn budget b xs i env) (drop j (rows_in d))) n t0 t below s

module _ (budget : ℕ) (b : Body) (xs : List ℕ) (i : ℕ) (d : Component) (mark : ℕ) where
  pub over_start : (t s : List Component) → Over_goes budget b xs i d mark 0 t t s s
  unfolding Over_goes
  over_start t s env n mid last below vs st u m nb l q p f = turning vs q f (kept_same n t) (leads_same (turns (row_turn budget b xs i env) (rows_in d) vs))

  pub over_no_row : (t t' s s' : List Component) (j : ℕ) (e : Stop) → Row_is d j (Err e) → Over_runs budget b xs i d mark t t' s s' (Err e)
  unfolding Over_runs
  over_no_row t t' s s' j _ no_memory_row env n mid last below vs st u m nb l q p f = no_memory

  module _ (j : ℕ) (t0 t s0 s : List Component) (h : Over_goes budget b xs i d mark j t0 t s0 s) where
    module _ (e : Component) (g : Row_is d j (Ok e)) (t1 s1 : List Component) where
      pub over_stop : (r : Stop) → Turn_runs budget b xs i e mark t t1 s s1 (Err r) → Over_runs budget b xs i d mark t0 t1 s0 s1 (Err r)
      unfolding Over_goes Turn_runs Over_runs
      over_stop r k env n mid last below vs st u m nb w q p f = by_row g
        where
          by_turn : {r : Stop} (ws : List Component) → Leads (turns (row_turn budget b xs i env) (rows_in d) vs) (turns (row_turn budget b xs i env) (e ∷ drop (suc j) (rows_in d)) ws) → Runs (row_turn budget b xs i env e ws) n t t1 below s1 (Err r) → Runs (turns (row_turn budget b xs i env) (rows_in d) vs) n t0 t1 below s1 (Err r)
          by_turn ws g (failed {r} f y) = let z = g (Fail r) f (stops y) in failed z.0 z.1
          by_turn ws g no_memory = no_memory
          by_turn ws g (gone f y) = let z = g Wrong f (sticks y) in gone z.0 z.1

          by_turning : slice_get (rows_in d) j ≡ Some e → Turning (turns (row_turn budget b xs i env) (rows_in d) vs) (turns (row_turn budget b xs i env) (drop j (rows_in d))) n t0 t below s → Runs (turns (row_turn budget b xs i env) (rows_in d) vs) n t0 t1 below s1 (Err r)
          by_turning x (turning ws q' f' k' g) =
              by_turn ws (subst (λ z. Leads (turns (row_turn budget b xs i env) (rows_in d) vs) (turns (row_turn budget b xs i env) z ws)) (drop_row (rows_in d) j e x) g)
              (k env n mid last below ws (stands_kept env n t0 t st k') u m nb (let z = k'.long in omega arith) q' p f')
          by_turning x (turned_wrong f y) = gone f y

          by_row : Row_is d j (Ok e) → Runs (turns (row_turn budget b xs i env) (rows_in d) vs) n t0 t1 below s1 (Err r)
          by_row (row_is x) = by_turning x (h env n mid last below vs st u m nb w q p f)

      pub over_more : Turn_runs budget b xs i e mark t t1 s s1 (Ok tt) → Over_goes budget b xs i d mark (j + 1) t0 t1 s0 s1
      unfolding Over_goes Turn_runs
      over_more k env n mid last below vs st u m nb w q p f =
          subst (λ z. Turning (turns (row_turn budget b xs i env) (rows_in d) vs) (turns (row_turn budget b xs i env) (drop z (rows_in d))) n t0 t1 below s1) (sym (add-one j)) (by_row g)
        where
          by_turn : (ws : List Component) → Kept n t0 t → Leads (turns (row_turn budget b xs i env) (rows_in d) vs) (turns (row_turn budget b xs i env) (e ∷ drop (suc j) (rows_in d)) ws) → Runs (row_turn budget b xs i env e ws) n t t1 below s1 (Ok tt) → Turning (turns (row_turn budget b xs i env) (rows_in d) vs) (turns (row_turn budget b xs i env) (drop (suc j) (rows_in d))) n t0 t1 below s1
          by_turn ws k' g (ran us f x q w y) =
              turning us x q (kept_trans n t0 t t1 k' w)
              (leads_trans (turns (row_turn budget b xs i env) (rows_in d) vs) (turns (row_turn budget b xs i env) (e ∷ drop (suc j) (rows_in d)) ws) (turns (row_turn budget b xs i env) (drop (suc j) (rows_in d)) us) g
              (leads_then (row_turn budget b xs i env e ws) (turns (row_turn budget b xs i env) (drop (suc j) (rows_in d))) us f y))
          by_turn ws k' g (gone f y) = let z = g Wrong f (sticks y) in turned_wrong z.0 z.1

          by_turning : slice_get (rows_in d) j ≡ Some e → Turning (turns (row_turn budget b xs i env) (rows_in d) vs) (turns (row_turn budget b xs i env) (drop j (rows_in d))) n t0 t below s → Turning (turns (row_turn budget b xs i env) (rows_in d) vs) (turns (row_turn budget b xs i env) (drop (suc j) (rows_in d))) n t0 t1 below s1
          by_turning x (turning ws q' f' k' g) =
              by_turn ws k' (subst (λ z. Leads (turns (row_turn budget b xs i env) (rows_in d) vs) (turns (row_turn budget b xs i env) z ws)) (drop_row (rows_in d) j e x) g)
              (k env n mid last below ws (stands_kept env n t0 t st k') u m nb (let z = k'.long in omega arith) q' p f')
          by_turning x (turned_wrong f y) = turned_wrong f y

          by_row : Row_is d j (Ok e) → Turning (turns (row_turn budget b xs i env) (rows_in d) vs) (turns (row_turn budget b xs i env) (drop (suc j) (rows_in d))) n t0 t1 below s1
          by_row (row_is x) = by_turning x (h env n mid last below vs st u m nb w q p f)

    pub over_end : (c : ℕ) → c ≡ length (rows_in d) → c ≤ j → Over_runs budget b xs i d mark t0 t s0 s (Ok tt)
    unfolding Over_goes Over_runs
    over_end c e l env n mid last below vs st u m nb w q p f = by_turning (h env n mid last below vs st u m nb w q p f)
      where
        by_turning : Turning (turns (row_turn budget b xs i env) (rows_in d) vs) (turns (row_turn budget b xs i env) (drop j (rows_in d))) n t0 t below s → Runs (turns (row_turn budget b xs i env) (rows_in d) vs) n t0 t below s (Ok tt)
        by_turning (turning ws q' f' k' g) =
            let z = subst (λ z. Leads (turns (row_turn budget b xs i env) (rows_in d) vs) (turns (row_turn budget b xs i env) z ws)) (drop_past (rows_in d) j (omega arith)) g (Val ws) 0 exact in ran ws z.0 q' f' k' z.1
        by_turning (turned_wrong f y) = gone f y

pub ruleset over_rows = (over_start, over_no_row, over_stop, over_more, over_end)

-- ---- one test

module _ (budget : ℕ) (b : Body) (xs : List ℕ) (mark : ℕ) (t t1 s : List Component) where
  pub test_bind_stop : (e : Stop) → Binds xs mark t t1 s (Err e) → Test_runs budget b xs mark t t1 s s (Err e)
  unfolding Binds Test_runs
  test_bind_stop e h env n mid last below vs st u nb l q p f = by_names (h env n mid below vs st u (let z = body_rises b mid last nb in omega arith) q p f)
    where
      by_names : {e : Stop} → Bound env n mid xs vs t t1 (Err e) → Tested (test_turn (body_means true budget b) xs env vs) env n mid xs vs t t1 s s (Err e)
      by_names no_memory_bound = no_memory_tested
      by_names (unbound y) = test_gone 0 (named_wrong xs vs env (λ e. Then (body_means true budget b e) (λ ws. the (holds ws))) y)

  module _ (h : Binds xs mark t t1 s (Ok tt)) (t2 s2 : List Component) where
    pub test_run_stop : (e : Stop) → Body_runs budget b t1 t2 s s2 (Err e) → Test_runs budget b xs mark t t2 s s2 (Err e)
    unfolding Binds Test_runs Body_runs
    test_run_stop e k env n mid last below vs st u nb l q p f = by_names (h env n mid below vs st u (let z = body_rises b mid last nb in omega arith) q p f)
      where
        by_run : {e : Stop} (e' : Names Component) → Leads (test_turn (body_means true budget b) xs env vs) (Then (body_means true budget b e') (λ ws. the (holds ws))) → Runs (body_means true budget b e') mid t1 t2 s s2 (Err e) → Tested (test_turn (body_means true budget b) xs env vs) env n mid xs vs t t2 s s2 (Err e)
        by_run e' g (failed {r} f y) = let z = g (Fail r) f (stops y) in test_failed z.0 z.1
        by_run e' g no_memory = no_memory_tested
        by_run e' g (gone f y) = let z = g Wrong f (sticks y) in test_gone z.0 z.1

        by_names : Bound env n mid xs vs t t1 (Ok tt) → Tested (test_turn (body_means true budget b) xs env vs) env n mid xs vs t t2 s s2 (Err e)
        by_names (is_bound e' y w x) = by_run e' (named_leads xs vs env e' (λ e. Then (body_means true budget b e) (λ ws. the (holds ws))) y) (k e' mid last w nb (let z = x.long in omega arith))
        by_names (unbound y) = test_gone 0 (named_wrong xs vs env (λ e. Then (body_means true budget b e) (λ ws. the (holds ws))) y)

    pub test_done : (top : ℕ) (s3 : List Component) (r : Result Bool Stop) → top ≡ length s → Body_runs budget b t1 t2 s s2 (Ok tt) → Pops top s2 s3 r → Test_runs budget b xs mark t t2 s s3 r
    unfolding Binds Test_runs Body_runs Pops
    test_done top s3 r m k pop env n mid last below vs st u nb l q p f = by_names (h env n mid below vs st u (let z = body_rises b mid last nb in omega arith) q p f)
      where
        by_pop : (e' : Names Component) (ws : List Component) (f : ℕ) (r : Result Bool Stop) → bound xs vs env ≡ Some e' → Stands e' mid t2 → Kept n t t2 → Leads (test_turn (body_means true budget b) xs env vs) (Then (body_means true budget b e') (λ ws. the (holds ws))) → body_means true budget b e' (Val ws) f → Tells (holds ws) r → IfDone (s3 ≡ s) r → Tested (test_turn (body_means true budget b) xs env vs) env n mid xs vs t t2 s s3 r
        by_pop e' ws f _ y w x g z (told {a} v) (done c) = let o = g (Val a) (f + 0) (goes_on z (the_is (holds ws) (Val a) v)) in tested e' o.0 y w x c o.1
        by_pop e' ws f _ y w x g z (report_told {r} v) c = let o = g (Fail r) (f + 0) (goes_on z (the_is (holds ws) (Fail r) v)) in test_failed o.0 o.1
        by_pop e' ws f _ y w x g z no_memory_told c = no_memory_tested
        by_pop e' ws f r y w x g z (lost v) c = let o = g Wrong (f + 0) (goes_on z (the_is (holds ws) Wrong v)) in test_gone o.0 o.1

        by_run : (e' : Names Component) → bound xs vs env ≡ Some e' → Stands e' mid t1 → Kept n t t1 → Leads (test_turn (body_means true budget b) xs env vs) (Then (body_means true budget b e') (λ ws. the (holds ws))) → Runs (body_means true budget b e') mid t1 t2 s s2 (Ok tt) → Tested (test_turn (body_means true budget b) xs env vs) env n mid xs vs t t2 s s3 r
        by_run e' y w x g (ran ws f a d c z) =
            let o = pop s ws a (sym m) in
            by_pop e' ws f r y (stands_kept e' mid t1 t2 w c) (kept_trans n t t1 t2 x (kept_less n mid t1 t2 (upward_rises n xs mid u) c)) g z o.0 o.1
        by_run e' y w x g (gone f z) = let o = g Wrong f (sticks z) in test_gone o.0 o.1

        by_names : Bound env n mid xs vs t t1 (Ok tt) → Tested (test_turn (body_means true budget b) xs env vs) env n mid xs vs t t2 s s3 r
        by_names (is_bound e' y w x) = by_run e' y w x (named_leads xs vs env e' (λ e. Then (body_means true budget b e) (λ ws. the (holds ws))) y) (k e' mid last w nb (let z = x.long in omega arith))
        by_names (unbound y) = test_gone 0 (named_wrong xs vs env (λ e. Then (body_means true budget b e) (λ ws. the (holds ws))) y)

pub held_test_done : (budget : ℕ) (b : Body) (xs : List ℕ) (mark : ℕ) (t t1 : List Component) (s : List Data) → Binds xs mark t t1 (held_all s) (Ok tt) → (t2 s2 : List Component) (top : ℕ) (s3 : List Component) (r : Result Bool Stop) → top ≡ length s → Body_runs budget b t1 t2 (held_all s) s2 (Ok tt) → Pops top s2 s3 r → Test_runs budget b xs mark t t2 (held_all s) s3 r
held_test_done budget b xs mark t t1 s h t2 s2 top s3 r m k p = test_done budget b xs mark t t1 (held_all s) h t2 s2 top s3 r (m ∙ sym (held_length s)) k p

pub ruleset one_test = (test_bind_stop, test_run_stop, held_test_done)

-- ---- the turns while a test holds

-- the turns that are left
abbrev pub loops : (budget left : ℕ) → Body → Body → List ℕ → Place → Names Component → List Component → Results
loops budget left c b xs at env = while_turns left (report kind.Turns at) (test_turn (body_means true budget c) xs env) (λ ws. under xs ws env (body_means true budget b))

-- the body runs next, and the other turns go on with what it comes to
pub data Body_here (whole : Results) (body : Names Component → Results) (rest : List Component → Results) (n mid : ℕ) (t0 t1 below below' : List Component) : Type 0 where
  body_here : (e : Names Component) → Stands e mid t1 → Kept n t0 t1 → below' ≡ below → Leads whole (Then (body e) rest) → Body_here whole body rest n mid t0 t1 below below'
  body_wrong : (f : ℕ) → whole Wrong f → Body_here whole body rest n mid t0 t1 below below'

unfoldable pub While_goes : ℕ → ℕ → Body → Body → List ℕ → Place → ℕ → (t0 t s0 s : List Component) → Type 0
While_goes budget j c b xs at mark t0 t s0 s =
    (env : Names Component) (n mid mid' last : ℕ) (below : List Component) (vs : List Component)
    → Stands env n t0 → Upward n xs mid → Body_numbered mid c mid' → Body_numbered mid' b last → last ≤ length t0
    → s0 ≡ below ++ vs → length below ≡ mark → Fit vs
    → Turning (loops budget budget c b xs at env vs) (loops budget (budget - j) c b xs at env) n t0 t below s

-- what a test says of the turns that are left
module _ {B : Type 0} (left : ℕ) (r : Report) (test : B → Rel Bool) (body : B → Rel B) (v : B) where
  while_fails : (q : Report) (f : ℕ) → test v (Fail q) f → while_turns left r test body v (Fail q) f
  while_fails q f y = by_left left
    where
      by_left : (left : ℕ) → while_turns left r test body v (Fail q) f
      by_left zero = stops y
      by_left (suc n) = stops y

  while_wrong : (f : ℕ) → test v Wrong f → while_turns left r test body v Wrong f
  while_wrong f y = by_left left
    where
      by_left : (left : ℕ) → while_turns left r test body v Wrong f
      by_left zero = sticks y
      by_left (suc n) = sticks y

  while_over : (f : ℕ) → test v (Val false) f → while_turns left r test body v (Val v) (f + 0)
  while_over f y = by_left left
    where
      by_left : (left : ℕ) → while_turns left r test body v (Val v) (f + 0)
      by_left zero = goes_on y exact
      by_left (suc n) = goes_on y exact

module _ (budget : ℕ) (c b : Body) (xs : List ℕ) (at : Place) (mark : ℕ) where
  pub while_start : (t s : List Component) → While_goes budget 0 c b xs at mark t t s s
  unfolding While_goes
  while_start t s env n mid mid' last below vs st u nc nb l q p f =
      let e : budget ≡ budget - 0 = omega arith in
      turning vs q f (kept_same n t) (subst (λ k. Leads (loops budget budget c b xs at env vs) (loops budget k c b xs at env vs)) e
      (leads_same (loops budget budget c b xs at env vs)))

  module _ (j : ℕ) (t0 t t1 s0 s s1 : List Component) (h : While_goes budget j c b xs at mark t0 t s0 s) where
    pub while_test_stop : (e : Stop) → Test_runs budget c xs mark t t1 s s1 (Err e) → While_runs budget c b xs at mark t0 t1 s0 s1 (Err e)
    unfolding While_goes Test_runs While_runs
    while_test_stop e k env n mid mid' last below vs st u nc nb l q p f = by_turning (h env n mid mid' last below vs st u nc nb l q p f)
      where
        by_test : {e : Stop} (ws : List Component) → Leads (loops budget budget c b xs at env vs) (loops budget (budget - j) c b xs at env ws) → Tested (test_turn (body_means true budget c) xs env ws) env n mid xs ws t t1 s s1 (Err e) → Runs (loops budget budget c b xs at env vs) n t0 t1 below s1 (Err e)
        by_test ws g (test_failed {r} f y) = let z = g (Fail r) f (while_fails (budget - j) (report kind.Turns at) (test_turn (body_means true budget c) xs env) (λ ws. under xs ws env (body_means true budget b)) ws r f y) in failed z.0 z.1
        by_test ws g no_memory_tested = no_memory
        by_test ws g (test_gone f y) = let z = g Wrong f (while_wrong (budget - j) (report kind.Turns at) (test_turn (body_means true budget c) xs env) (λ ws. under xs ws env (body_means true budget b)) ws f y) in gone z.0 z.1

        by_turning : Turning (loops budget budget c b xs at env vs) (loops budget (budget - j) c b xs at env) n t0 t below s → Runs (loops budget budget c b xs at env vs) n t0 t1 below s1 (Err e)
        by_turning (turning ws q' f' k' g) =
            by_test ws g (k env n mid mid' below ws (stands_kept env n t0 t st k') u nc (let z = k'.long in let y = body_rises b mid' last nb in omega arith) q' p f')
        by_turning (turned_wrong f y) = gone f y

    pub while_done : Test_runs budget c xs mark t t1 s s1 (Ok false) → While_runs budget c b xs at mark t0 t1 s0 s1 (Ok tt)
    unfolding While_goes Test_runs While_runs
    while_done k env n mid mid' last below vs st u nc nb l q p f = by_turning (h env n mid mid' last below vs st u nc nb l q p f)
      where
        by_test : (ws : List Component) → s ≡ below ++ ws → Fit ws → Kept n t0 t → Leads (loops budget budget c b xs at env vs) (loops budget (budget - j) c b xs at env ws) → Tested (test_turn (body_means true budget c) xs env ws) env n mid xs ws t t1 s s1 (Ok false) → Runs (loops budget budget c b xs at env vs) n t0 t1 below s1 (Ok tt)
        by_test ws q' f' k' g (tested e f y w x d z) = let o = g (Val ws) (f + 0) (while_over (budget - j) (report kind.Turns at) (test_turn (body_means true budget c) xs env) (λ ws. under xs ws env (body_means true budget b)) ws f z) in ran ws o.0 (d ∙ q') f' (kept_trans n t0 t t1 k' x) o.1
        by_test ws q' f' k' g (test_gone f y) = let z = g Wrong f (while_wrong (budget - j) (report kind.Turns at) (test_turn (body_means true budget c) xs env) (λ ws. under xs ws env (body_means true budget b)) ws f y) in gone z.0 z.1

        by_turning : Turning (loops budget budget c b xs at env vs) (loops budget (budget - j) c b xs at env) n t0 t below s → Runs (loops budget budget c b xs at env vs) n t0 t1 below s1 (Ok tt)
        by_turning (turning ws q' f' k' g) =
            by_test ws q' f' k' g (k env n mid mid' below ws (stands_kept env n t0 t st k') u nc (let z = k'.long in let y = body_rises b mid' last nb in omega arith) q' p f')
        by_turning (turned_wrong f y) = gone f y

    pub while_spent : budget ≤ j → Test_runs budget c xs mark t t1 s s1 (Ok true) → While_runs budget c b xs at mark t0 t1 s0 s1 (Err (Failed (report kind.Turns at)))
    unfolding While_goes Test_runs While_runs
    while_spent m k env n mid mid' last below vs st u nc nb l q p f = by_turning (h env n mid mid' last below vs st u nc nb l q p f)
      where
        none_left : budget - j ≡ 0
        none_left = omega arith

        by_test : (ws : List Component) → Leads (loops budget budget c b xs at env vs) (loops budget 0 c b xs at env ws) → Tested (test_turn (body_means true budget c) xs env ws) env n mid xs ws t t1 s s1 (Ok true) → Runs (loops budget budget c b xs at env vs) n t0 t1 below s1 (Err (Failed (report kind.Turns at)))
        by_test ws g (tested e f y w x d z) = let o = g (Fail (report kind.Turns at)) (f + 0) (goes_on z exact) in failed o.0 o.1
        by_test ws g (test_gone f y) = let z = g Wrong f (sticks y) in gone z.0 z.1

        by_turning : Turning (loops budget budget c b xs at env vs) (loops budget (budget - j) c b xs at env) n t0 t below s → Runs (loops budget budget c b xs at env vs) n t0 t1 below s1 (Err (Failed (report kind.Turns at)))
        by_turning (turning ws q' f' k' g) =
            by_test ws (subst (λ z. Leads (loops budget budget c b xs at env vs) (loops budget z c b xs at env ws)) none_left g)
            (k env n mid mid' below ws (stands_kept env n t0 t st k') u nc (let z = k'.long in let y = body_rises b mid' last nb in omega arith) q' p f')
        by_turning (turned_wrong f y) = gone f y

    -- after a test that holds, the body runs on the same values
    body_is : j < budget → Test_runs budget c xs mark t t1 s s1 (Ok true) → (env : Names Component) (n mid mid' last : ℕ) (below : List Component) (vs : List Component) → Stands env n t0 → Upward n xs mid → Body_numbered mid c mid' → Body_numbered mid' b last → last ≤ length t0 → s0 ≡ below ++ vs → length below ≡ mark → Fit vs → Body_here (loops budget budget c b xs at env vs) (body_means true budget b) (loops budget (budget - suc j) c b xs at env) n mid t0 t1 below (take mark s1)
    unfolding While_goes Test_runs
    body_is m k env n mid mid' last below vs st u nc nb l q p f = by_turning (h env n mid mid' last below vs st u nc nb l q p f)
      where
        by_test : (ws : List Component) → s ≡ below ++ ws → Kept n t0 t → Leads (loops budget budget c b xs at env vs) (loops budget (suc (budget - suc j)) c b xs at env ws) → Tested (test_turn (body_means true budget c) xs env ws) env n mid xs ws t t1 s s1 (Ok true) → Body_here (loops budget budget c b xs at env vs) (body_means true budget b) (loops budget (budget - suc j) c b xs at env) n mid t0 t1 below (take mark s1)
        by_test ws q' k' g (tested e f y w x d z) =
            body_here e w (kept_trans n t0 t t1 k' x) (ap (take mark) (d ∙ q') ∙ ap (λ z. take z (below ++ ws)) (sym p) ∙ take-append_seam below ws)
            (leads_trans (loops budget budget c b xs at env vs) (loops budget (suc (budget - suc j)) c b xs at env ws) (Then (body_means true budget b e) (loops budget (budget - suc j) c b xs at env)) g
            (leads_trans (loops budget (suc (budget - suc j)) c b xs at env ws) (Then (under xs ws env (body_means true budget b)) (loops budget (budget - suc j) c b xs at env)) (Then (body_means true budget b e) (loops budget (budget - suc j) c b xs at env))
            (leads_then (test_turn (body_means true budget c) xs env ws) (λ goes. choose goes (Then (under xs ws env (body_means true budget b)) (loops budget (budget - suc j) c b xs at env)) (gives 0 ws)) true f z)
            (leads_first (under xs ws env (body_means true budget b)) (body_means true budget b e) (loops budget (budget - suc j) c b xs at env) (named_leads xs ws env e (body_means true budget b) y))))
        by_test ws q' k' g (test_gone f y) = let z = g Wrong f (sticks y) in body_wrong z.0 z.1

        some_left : budget - j ≡ suc (budget - suc j)
        some_left = omega arith

        by_turning : Turning (loops budget budget c b xs at env vs) (loops budget (budget - j) c b xs at env) n t0 t below s → Body_here (loops budget budget c b xs at env vs) (body_means true budget b) (loops budget (budget - suc j) c b xs at env) n mid t0 t1 below (take mark s1)
        by_turning (turning ws q' f' k' g) =
            by_test ws q' k' (subst (λ z. Leads (loops budget budget c b xs at env vs) (loops budget z c b xs at env ws)) some_left g) (k env n mid mid' below ws (stands_kept env n t0 t st k') u nc (let z = k'.long in let y = body_rises b mid' last nb in omega arith) q' p f')
        by_turning (turned_wrong f y) = body_wrong f y

    module _ (t2 s2 : List Component) where
      pub while_body_stop : (e : Stop) → j < budget → Test_runs budget c xs mark t t1 s s1 (Ok true) → Body_runs budget b t1 t2 (take mark s1) s2 (Err e) → While_runs budget c b xs at mark t0 t2 s0 s2 (Err e)
      unfolding While_runs Body_runs
      while_body_stop e m k a env n mid mid' last below vs st u nc nb l q p f = by_body (body_is m k env n mid mid' last below vs st u nc nb l q p f)
        where
          by_run : {e : Stop} (e' : Names Component) → Leads (loops budget budget c b xs at env vs) (Then (body_means true budget b e') (loops budget (budget - suc j) c b xs at env)) → Runs (body_means true budget b e') mid' t1 t2 (take mark s1) s2 (Err e) → Runs (loops budget budget c b xs at env vs) n t0 t2 below s2 (Err e)
          by_run e' g (failed {r} f y) = let z = g (Fail r) f (stops y) in failed z.0 z.1
          by_run e' g no_memory = no_memory
          by_run e' g (gone f y) = let z = g Wrong f (sticks y) in gone z.0 z.1

          by_body : Body_here (loops budget budget c b xs at env vs) (body_means true budget b) (loops budget (budget - suc j) c b xs at env) n mid t0 t1 below (take mark s1) → Runs (loops budget budget c b xs at env vs) n t0 t2 below s2 (Err e)
          by_body (body_here e' w x d g) = by_run e' g (a e' mid' last (stands_more e' mid mid' t1 (body_rises c mid mid' nc) w) nb (let z = x.long in omega arith))
          by_body (body_wrong f y) = gone f y

      pub while_more : j < budget → Test_runs budget c xs mark t t1 s s1 (Ok true) → Body_runs budget b t1 t2 (take mark s1) s2 (Ok tt) → While_goes budget (j + 1) c b xs at mark t0 t2 s0 s2
      unfolding While_goes Body_runs
      while_more m k a env n mid mid' last below vs st u nc nb l q p f =
          subst (λ z. Turning (loops budget budget c b xs at env vs) (loops budget (budget - z) c b xs at env) n t0 t2 below s2) (sym (add-one j)) (by_body (body_is m k env n mid mid' last below vs st u nc nb l q p f))
        where
          by_run : (e' : Names Component) → Kept n t0 t1 → take mark s1 ≡ below → Leads (loops budget budget c b xs at env vs) (Then (body_means true budget b e') (loops budget (budget - suc j) c b xs at env)) → Runs (body_means true budget b e') mid' t1 t2 (take mark s1) s2 (Ok tt) → Turning (loops budget budget c b xs at env vs) (loops budget (budget - suc j) c b xs at env) n t0 t2 below s2
          by_run e' x d g (ran ws a' y v w z) =
              turning ws (y ∙ ap (λ z. z ++ ws) d) v (kept_trans n t0 t1 t2 x (kept_less n mid' t1 t2 (let i = upward_rises n xs mid u in let o = body_rises c mid mid' nc in omega arith) w))
              (leads_trans (loops budget budget c b xs at env vs) (Then (body_means true budget b e') (loops budget (budget - suc j) c b xs at env)) (loops budget (budget - suc j) c b xs at env ws) g
              (leads_then (body_means true budget b e') (loops budget (budget - suc j) c b xs at env) ws a' z))
          by_run e' x d g (gone f y) = let z = g Wrong f (sticks y) in turned_wrong z.0 z.1

          by_body : Body_here (loops budget budget c b xs at env vs) (body_means true budget b) (loops budget (budget - suc j) c b xs at env) n mid t0 t1 below (take mark s1) → Turning (loops budget budget c b xs at env vs) (loops budget (budget - suc j) c b xs at env) n t0 t2 below s2
          by_body (body_here e' w x d g) = by_run e' x d g (a e' mid' last (stands_more e' mid mid' t1 (body_rises c mid mid' nc) w) nb (let z = x.long in omega arith))
          by_body (body_wrong f y) = turned_wrong f y

module _ (budget : ℕ) (c b : Body) (xs : List ℕ) (at : Place) (mark j : ℕ) (t0 t s0 s : List Component) (h : While_goes budget j c b xs at mark t0 t s0 s) (t1 : List Component) (s1 : List Data) (s1' : List Data) (q : s1' ≡ take mark s1) (t2 s2 : List Component) where
  cut : (r : Answer) → Body_runs budget b t1 t2 (held_all s1') s2 r → Body_runs budget b t1 t2 (take mark (held_all s1)) s2 r
  cut r a = subst (λ z. Body_runs budget b t1 t2 z s2 r) (ap held_all q ∙ held_take mark s1) a

  pub held_while_body_stop : (e : Stop) → j < budget → Test_runs budget c xs mark t t1 s (held_all s1) (Ok true) → Body_runs budget b t1 t2 (held_all s1') s2 (Err e) → While_runs budget c b xs at mark t0 t2 s0 s2 (Err e)
  held_while_body_stop e m k a = while_body_stop budget c b xs at mark j t0 t t1 s0 s (held_all s1) h t2 s2 e m k (cut (Err e) a)

  pub held_while_more : j < budget → Test_runs budget c xs mark t t1 s (held_all s1) (Ok true) → Body_runs budget b t1 t2 (held_all s1') s2 (Ok tt) → While_goes budget (j + 1) c b xs at mark t0 t2 s0 s2
  held_while_more m k a = while_more budget c b xs at mark j t0 t t1 s0 s (held_all s1) h t2 s2 m k (cut (Ok tt) a)

pub ruleset uncounted = (while_start, while_test_stop, while_done, while_spent, held_while_body_stop, held_while_more)
