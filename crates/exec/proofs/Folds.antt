-- Blocks that run on rows.
use Rattle.std.proofs.Common.{◌≡◌, ℕ, zero, suc, ◌+◌, ◌<◌, ◌≤◌, List, [], ◌∷◌, ◌++◌, length, map, drop, slice_get, Some, Ok, Err, refl, sym, ap, ◌∙◌, subst, arith, add-one}
use Rattle.fut_meaning.specs.Outcomes.{Val, Fail, exact, stops, turns}
use Rattle.fut_blocks.specs.Meaning.{bound}
use Rattle.core_ir.specs.declared.block.Var.{Var}
use Rattle.core_ir.specs.Bundles.{Row}
use Rattle.core_ir.specs.Meaning.{Env, Results, number, under}
use Rattle.core_ir.specs.Plain.{Body, Bundle}
use Rattle.core_ir.specs.Typed.{Sorts, sort_of, with_vars}
use Rattle.core_code.specs.Registers.{State, state, Stands, Kept}
use Rattle.core_code.specs.Answers.{Answer, IfDone, done, Taken, taken, Takes, Runs, ran, failed, no_memory}
use Rattle.core_code.specs.Runs.{body_runs, Body_runs, Lies, with_stack}
use Rattle.core_code.specs.declared.stop.Stop.{Stop}
use Rattle.core_code.specs.declared.stop.Stop.TheVariants.{Memory}
use Rattle.core_code.proofs.Frames.{Leads, leads_same, leads_trans, leads_then, runs_on, kept_same, kept_trans, stands_kept, stands_on}
use Rattle.core_code.proofs.Storing.{upward_rises}
use Rattle.core_steps.specs.Rows.{RowPushed, row_pushed, Bundle_pushed}
use Rattle.exec.specs.Folds.{Under_runs, Folding, row_turn, Row_turn_runs, Fold_runs}
use Rattle.exec.proofs.Steps.{named_leads}
use Rattle.exec.proofs.Loops.{Turned, turned, kept_below}

-- ---- a block under parameters

module _ (budget : ℕ) (b : Body) (xs : List Var) (mark : ℕ) (S : State) where
  pub under_memory : (S' : State) (e : Stop) → e ≡ Memory → Under_runs budget b xs mark S S' (Err e)
  unfolding Under_runs
  under_memory S' e q G env n mid last below cs ss st u g nb lie = subst (λ z. Runs (under xs cs env (body_runs budget b)) ss n (with_stack S below) S' (Err z)) (sym q) no_memory

  pub under_done : (t1 s1 : List ℕ) (S' : State) (r : Answer) → Takes xs mark S.words t1 S.stack s1 (Ok tt) → Body_runs budget b (state S.arena t1 s1) S' r → Under_runs budget b xs mark S S' r
  unfolding Takes Body_runs Under_runs
  under_done t1 s1 S' r h k G env n mid last below cs ss st u g nb lie =
      let c = h G env n mid S.arena.arrays below lie.ws cs st u lie.stack lie.long lie.shown in by_names c.0 c.1
    where
      by_names : Taken G env n mid xs cs S.arena.arrays S.words t1 (Ok tt) → IfDone (s1 ≡ below) (Ok tt) → Runs (under xs cs env (body_runs budget b)) ss n (with_stack S below) S' r
      by_names (taken {e} p st' w) (done d) =
          runs_on (under xs cs env (body_runs budget b)) (body_runs budget b e) ss n mid (with_stack S below) (state S.arena t1 s1) S' 0 r (upward_rises n (map number xs) mid u)
          (record { words = w; arrays = λ i a v. v; handed = omega arith }) d (named_leads xs cs env e (body_runs budget b) p) (k (with_vars xs G) e ss mid last st' g nb)

pub ruleset unders = (under_memory, under_done)

-- ---- a turn for a row

pub get_within : {A : Type 0} (xs : List A) (i : ℕ) (x : A) → slice_get xs i ≡ Some x → i < length xs
get_within [] i x e = cc
get_within (y ∷ xs) zero x e = omega arith
get_within (y ∷ xs) (suc i) x e = let k = get_within xs i x e in omega (arith, k)

some_same : {A : Type 0} (o : _) (a b : A) → o ≡ Some a → o ≡ Some b → a ≡ b
some_same o a b e f = let h : Some a ≡ Some b = sym e ∙ f in cc

module _ (budget : ℕ) (b : Body) (xs ys : List Var) (r : Bundle) (i mark : ℕ) (S : State) where
  pub row_turn_memory : (S' : State) (e : Stop) → e ≡ Memory → Row_turn_runs budget b xs ys r i mark S S' (Err e)
  unfolding Row_turn_runs
  row_turn_memory S' e q G env n below cs rows row on lie f = subst (λ z. Runs (row_turn budget b xs ys env row cs) (map sort_of xs) n (with_stack S below) S' (Err z)) (sym q) no_memory

  pub row_turn_done : (t1 s1 : List ℕ) (S2 S' : State) (a : Answer) → Takes xs mark S.words t1 S.stack s1 (Ok tt) → Bundle_pushed r i (state S.arena t1 s1) S2 (Ok tt) → S2.words ≡ t1 → Under_runs budget b ys mark S2 S' a → Row_turn_runs budget b xs ys r i mark S S' a
  unfolding Takes Bundle_pushed Under_runs Row_turn_runs
  row_turn_done t1 s1 S2 S' a h p w u G env n below cs rows row on lie f =
      let c = h G env n on.mid S.arena.arrays below lie.ws cs on.stands on.rises lie.stack lie.long lie.shown in by_names c.0 c.1
    where
      by_push : (e : Env) → bound (map number xs) cs env ≡ Some e → Stands (with_vars xs G) e on.mid S.arena.arrays t1 → ((x : ℕ) → x < n → slice_get t1 x ≡ slice_get S.words x) → s1 ≡ below → RowPushed (λ ds. slice_get rows i ≡ Some ds) (map sort_of ys) (state S.arena t1 s1) S2 (Ok tt) → Runs (row_turn budget b xs ys env row cs) (map sort_of xs) n (with_stack S below) S' a
      by_push e q st k d (row_pushed ds ws y sh z g) =
          let same : ds ≡ row = some_same (slice_get rows i) ds row y f in
          let inner = u (with_vars xs G) e on.mid on.middle on.last below ds (map sort_of xs)
          (stands_on (with_vars xs G) e on.mid on.mid S.arena.arrays S2.arena.arrays t1 S2.words (omega arith) (λ x l. ap (λ t. slice_get t x) w) g.arrays st) on.row_rises on.typed on.numbered
          (record { ws = ws; stack = z ∙ ap (λ s. s ++ ws) d; long = lie.long; shown = sh }) in
          subst (λ v. Runs (row_turn budget b xs ys env v cs) (map sort_of xs) n (with_stack S below) S' a) same
          (runs_on (row_turn budget b xs ys env ds cs) (under ys ds e (body_runs budget b)) (map sort_of xs) n on.mid (with_stack S below) (with_stack S2 below) S' 0 a (upward_rises n (map number xs) on.mid on.rises)
          (record { words = λ x l. ap (λ t. slice_get t x) w ∙ k x l; arrays = g.arrays; handed = omega (arith, g.handed) }) refl
          (named_leads xs cs env e (λ e. under ys ds e (body_runs budget b)) q) inner)

      by_names : Taken G env n on.mid xs cs S.arena.arrays S.words t1 (Ok tt) → IfDone (s1 ≡ below) (Ok tt) → Runs (row_turn budget b xs ys env row cs) (map sort_of xs) n (with_stack S below) S' a
      by_names (taken {e} q st k) (done d) =
          by_push e q st k d
          (p G env n (map sort_of ys) on.arrays rows on.at (stands_on G env n n S.arena.arrays S.arena.arrays S.words t1 (omega arith) k (λ i a v. v) on.stands) on.bundle on.values on.read (get_within rows i row f))

pub ruleset row_turns = (row_turn_memory, row_turn_done)

-- ---- turns for all rows

unfoldable pub Fold_goes : ℕ → Body → List Var → List Var → Bundle → ℕ → ℕ → ℕ → State → State → Type 0
Fold_goes budget b xs ys r count mark j S0 S =
    (G : Sorts) (env : Env) (n : ℕ) (below : List ℕ) (cs : Row) (rows : List Row) → Folding G env xs ys r b n rows S0 → Lies xs mark below cs S0 → length rows ≡ count
    → Turned (turns (row_turn budget b xs ys env) rows cs) (turns (row_turn budget b xs ys env) (drop j rows)) xs n mark S0 S below

pub record Row_there (rows : List Row) (j : ℕ) : Type 0 where
  pub row : Row
  pub there : slice_get rows j ≡ Some row
  pub left : drop j rows ≡ row ∷ drop (suc j) rows

pub row_there : (rows : List Row) (j : ℕ) → j < length rows → Row_there rows j
row_there [] j l = absurd (omega arith)
row_there (x ∷ rows) zero l = record { row = x; there = refl; left = refl }
row_there (x ∷ rows) (suc j) l = let k = row_there rows j (omega (arith, l)) in record { row = k.row; there = k.there; left = k.left }

pub none_left : (rows : List Row) (j : ℕ) → length rows ≤ j → drop j rows ≡ []
none_left [] zero l = refl
none_left [] (suc j) l = refl
none_left (x ∷ rows) zero l = absurd (omega (arith, l))
none_left (x ∷ rows) (suc j) l = none_left rows j (omega (arith, l))

pub folding_on : (G : Sorts) (env : Env) (xs ys : List Var) (r : Bundle) (b : Body) (n : ℕ) (rows : List Row) (S0 S : State) (c : ℕ) → Kept n S0 S c → Folding G env xs ys r b n rows S0 → Folding G env xs ys r b n rows S
folding_on G env xs ys r b n rows S0 S c k on = record {
  mid = on.mid;
  middle = on.middle;
  last = on.last;
  stands = stands_kept G env n S0 S c on.stands k;
  rises = on.rises;
  row_rises = on.row_rises;
  bundle = on.bundle;
  arrays = on.arrays;
  values = on.values;
  at = on.at;
  read = on.read;
  typed = on.typed;
  numbered = on.numbered;
}

module _ (budget : ℕ) (b : Body) (xs ys : List Var) (r : Bundle) (count mark : ℕ) where
  abbrev whole : Env → List Row → Row → Results
  whole env rows = turns (row_turn budget b xs ys env) rows

  pub fold_start : (S : State) → Fold_goes budget b xs ys r count mark 0 S S
  unfolding Fold_goes
  fold_start S G env n below cs rows on lie l = turned cs 0 lie (kept_same n S) (leads_same (whole env rows cs))

  module _ (j : ℕ) (S0 S : State) (h : Fold_goes budget b xs ys r count mark j S0 S) where
    module _ (S1 : State) (l : j < count) where
      pub fold_stop : (e : Stop) → Row_turn_runs budget b xs ys r j mark S S1 (Err e) → Fold_runs budget b xs ys r count mark S0 S1 (Err e)
      unfolding Fold_goes Row_turn_runs Fold_runs
      fold_stop e k G env n below cs rows on lie m = by_row (row_there rows j (omega (arith, l, m))) (h G env n below cs rows on lie m)
        where
          by_turn : {e : Stop} (row ds : Row) (c : ℕ) → Leads c (whole env rows cs) (whole env (row ∷ drop (suc j) rows) ds) → Runs (row_turn budget b xs ys env row ds) (map sort_of xs) n (with_stack S below) S1 (Err e) → Runs (whole env rows cs) (map sort_of xs) n (with_stack S0 below) S1 (Err e)
          by_turn row ds c g (failed {r} f y) = let z = g (Fail r) f (stops y) in failed z.0 z.1
          by_turn row ds c g no_memory = no_memory

          by_row : Row_there rows j → Turned (whole env rows cs) (whole env (drop j rows)) xs n mark S0 S below → Runs (whole env rows cs) (map sort_of xs) n (with_stack S0 below) S1 (Err e)
          by_row t (turned ds c lie' k' g) =
              by_turn t.row ds c (subst (λ z. Leads c (whole env rows cs) (whole env z ds)) t.left g)
              (k G env n below ds rows t.row (folding_on G env xs ys r b n rows S0 S c k' on) lie' t.there)

      pub fold_more : Row_turn_runs budget b xs ys r j mark S S1 (Ok tt) → Fold_goes budget b xs ys r count mark (j + 1) S0 S1
      unfolding Fold_goes Row_turn_runs
      fold_more k G env n below cs rows on lie m =
          subst (λ z. Turned (whole env rows cs) (whole env (drop z rows)) xs n mark S0 S1 below) (sym (add-one j)) (by_row (row_there rows j (omega (arith, l, m))) (h G env n below cs rows on lie m))
        where
          by_turn : (row ds : Row) (c : ℕ) → Kept n S0 S c → length below ≡ mark → Leads c (whole env rows cs) (whole env (row ∷ drop (suc j) rows) ds) → Runs (row_turn budget b xs ys env row ds) (map sort_of xs) n (with_stack S below) S1 (Ok tt) → Turned (whole env rows cs) (whole env (drop (suc j) rows)) xs n mark S0 S1 below
          by_turn row ds c k' p g (ran es ws f q sh w y) =
              turned es (c + f) (record { ws = ws; stack = q; long = p; shown = sh }) (kept_trans n S0 S S1 c f k' (kept_below n S S1 below f w))
              (leads_trans c f (whole env rows cs) (whole env (row ∷ drop (suc j) rows) ds) (whole env (drop (suc j) rows) es) g
              (leads_then (row_turn budget b xs ys env row ds) (whole env (drop (suc j) rows)) es f y))

          by_row : Row_there rows j → Turned (whole env rows cs) (whole env (drop j rows)) xs n mark S0 S below → Turned (whole env rows cs) (whole env (drop (suc j) rows)) xs n mark S0 S1 below
          by_row t (turned ds c lie' k' g) =
              by_turn t.row ds c k' lie.long (subst (λ z. Leads c (whole env rows cs) (whole env z ds)) t.left g)
              (k G env n below ds rows t.row (folding_on G env xs ys r b n rows S0 S c k' on) lie' t.there)

    pub fold_end : count ≤ j → Fold_runs budget b xs ys r count mark S0 S (Ok tt)
    unfolding Fold_goes Fold_runs
    fold_end l G env n below cs rows on lie m = by_turned (h G env n below cs rows on lie m)
      where
        by_turned : Turned (whole env rows cs) (whole env (drop j rows)) xs n mark S0 S below → Runs (whole env rows cs) (map sort_of xs) n (with_stack S0 below) S (Ok tt)
        by_turned (turned ds c lie' k' g) =
            let z = subst (λ z. Leads c (whole env rows cs) (whole env z ds)) (none_left rows j (omega (arith, l, m))) g (Val ds) 0 exact in
            ran ds lie'.ws z.0 lie'.stack lie'.shown (record { words = k'.words; arrays = k'.arrays; handed = omega (arith, k'.handed, z.2) }) z.1

pub ruleset folds = (fold_start, fold_stop, fold_more, fold_end)
