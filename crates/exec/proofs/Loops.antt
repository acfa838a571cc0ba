-- Turns of loops.
use Rattle.std.proofs.Common.{◌≡◌, ℕ, zero, suc, ◌+◌, ◌-◌, ◌<◌, ◌≤◌, ◌^◌, List, [], ◌∷◌, ◌++◌, length, map, take, slice_get, Bool, true, false, Some, Result, Ok, Err, refl, sym, ap, ◌∙◌, subst, arith, add-one}
use Rattle.std.proofs.Math.Seq.{take-append_seam}
use Rattle.fut_scalar.specs.Integers.{width_of}
use Rattle.fut_scalar.specs.declared.place.Place.{Place}
use Rattle.fut_scalar.specs.declared.report.FailKind.TheVariants as kind
use Rattle.fut_scalar.specs.declared.report.Report.{Report}
use Rattle.fut_scalar.specs.declared.scalar.IntType.{IntType}
use Rattle.fut_scalar.specs.declared.scalar.Scalar.TheVariants as scalar
use Rattle.fut_meaning.specs.Meaning.{counts}
use Rattle.fut_meaning.specs.Operations.{report}
use Rattle.fut_meaning.specs.Outcomes.{Val, Fail, Rel, exact, gives, the, Then, goes_on, stops, choose, turns, while_turns}
use Rattle.fut_blocks.specs.Meaning.{bound}
use Rattle.core_ir.specs.declared.block.Var.{Var}
use Rattle.core_ir.specs.Bundles.{Component, One, Row}
use Rattle.core_ir.specs.Meaning.{Env, Results, number, under, holds, test_turn}
use Rattle.core_ir.specs.Plain.{Body}
use Rattle.core_ir.specs.Typed.{Sorts, sort_of, truth_sort, with_vars}
use Rattle.core_code.specs.Registers.{State, state, Shows, AllShow, Stands, Kept}
use Rattle.core_code.specs.Answers.{Answer, OnlyMemory, TruthTold, truth_told, IfTold, is_told, Pops, IfDone, done, Taken, taken, Binds, Takes, Set, set, Runs, ran, failed, no_memory}
use Rattle.core_code.specs.Runs.{body_runs, Body_runs, Turning, Lies, with_stack, index_turn, Turn_runs, For_runs, Testing, Tested, tested, test_failed, no_memory_tested, Test_runs, loops, While_runs}
use Rattle.core_code.specs.declared.stop.Stop.{Stop}
use Rattle.core_code.specs.declared.stop.Stop.TheVariants.{Failed, Memory}
use Rattle.core_code.proofs.Frames.{the_is, Leads, leads_same, leads_trans, leads_then, leads_first, runs_on, kept_same, kept_less, kept_trans, stands_kept, stands_more, all_show_on}
use Rattle.core_code.proofs.Storing.{upward_rises, stands_new, get_apart}
use Rattle.exec.proofs.Steps.{body_rises, named_leads}

-- ---- one turn of a counted loop

module _ (budget : ℕ) (b : Body) (xs : List Var) (i : Var) (ty : IntType) (j mark : ℕ) (S : State) where
  pub turn_memory : (S' : State) (e : Stop) → e ≡ Memory → Turn_runs budget b xs i ty j mark S S' (Err e)
  unfolding Turn_runs
  turn_memory S' e q G env n below cs on lie l = subst (λ z. Runs (index_turn budget b xs i ty env j cs) (map sort_of xs) n (with_stack S below) S' (Err z)) (sym q) no_memory

  pub turn_done : (t1 s1 t2 : List ℕ) (S' : State) (r : Answer) → Takes xs mark S.words t1 S.stack s1 (Ok tt) → Set i.number j t1 t2 (Ok tt) → Body_runs budget b (state S.arena t2 s1) S' r → Turn_runs budget b xs i ty j mark S S' r
  unfolding Takes Turn_runs Body_runs
  turn_done t1 s1 t2 S' r h (set m q) k G env n below cs on lie l =
      let c = h G env n on.mid S.arena.arrays below lie.ws cs on.stands on.rises lie.stack lie.long lie.shown in by_names c.0 c.1
    where
      low : n ≤ on.mid
      low = upward_rises n (map number xs) on.mid on.rises

      by_names : Taken G env n on.mid xs cs S.arena.arrays S.words t1 (Ok tt) → IfDone (s1 ≡ below) (Ok tt) → Runs (index_turn budget b xs i ty env j cs) (map sort_of xs) n (with_stack S below) S' r
      by_names (taken {e} p st w) (done d) =
          let c : Component = One (scalar.Int ty j) in
          let inner : Env = (i.number, c) ∷ e in
          let sh : Shows S.arena.arrays (sort_of i) c j = subst (λ z. Shows S.arena.arrays z c j) (sym on.sort) (record { scalar = scalar.Int ty j; is = refl; typed = (refl, l); word = refl }) in
          let st1 = stands_new (with_vars xs G) e on.mid S.arena.arrays t1 i.number (sort_of i) c j st on.index m sh in
          let st2 : Stands ((i.number, sort_of i) ∷ with_vars xs G) inner (suc i.number) S.arena.arrays t2 = subst (Stands ((i.number, sort_of i) ∷ with_vars xs G) inner (suc i.number) S.arena.arrays) (sym q) st1 in
          let kept : Kept n (with_stack S below) (state S.arena t2 s1) 0 = record { words = λ y v. ap (λ z. slice_get z y) q ∙ get_apart t1 i.number y j (λ z. absurd (omega (arith, z, v, low, on.index))) ∙ w y v; arrays = λ y a v. v; handed = omega arith } in
          runs_on (index_turn budget b xs i ty env j cs) (body_runs budget b inner) (map sort_of xs) n (suc i.number) (with_stack S below) (state S.arena t2 s1) S' 0 r (omega (arith, low, on.index)) kept d
          (named_leads xs cs env e (λ e. body_runs budget b ((i.number, One (scalar.Int ty j)) ∷ e)) p)
          (k ((i.number, sort_of i) ∷ with_vars xs G) inner (map sort_of xs) (suc i.number) on.last st2 on.typed on.numbered)

pub ruleset one_turn = (turn_memory, turn_done)

-- ---- the turns of a counted loop

-- some turns are taken: what the rest comes to, the whole may
pub data Turned (whole : Results) (rest : Row → Results) (xs : List Var) (n mark : ℕ) (S0 S : State) (below : List ℕ) : Type 0 where
  turned : (cs : Row) (c : ℕ) → Lies xs mark below cs S → Kept n S0 S c → Leads c whole (rest cs) → Turned whole rest xs n mark S0 S below

unfoldable pub For_goes : ℕ → Body → List Var → Var → IntType → ℕ → ℕ → ℕ → State → State → Type 0
For_goes budget b xs i ty count mark j S0 S =
    (G : Sorts) (env : Env) (n : ℕ) (below : List ℕ) (cs : Row) → Turning G env xs i ty b n S0 → Lies xs mark below cs S0 → count < 2 ^ width_of ty
    → Turned (turns (index_turn budget b xs i ty env) (counts count 0) cs) (turns (index_turn budget b xs i ty env) (counts (count - j) j)) xs n mark S0 S below

counts_next : (count j : ℕ) → j < count → counts (count - j) j ≡ j ∷ counts (count - suc j) (suc j)
counts_next count j l = let e : count - j ≡ suc (count - suc j) = omega arith in ap (λ k. counts k j) e

counts_none : (count j : ℕ) → count ≤ j → counts (count - j) j ≡ []
counts_none count j l = let e : count - j ≡ 0 = omega arith in ap (λ k. counts k j) e

turning_on : (G : Sorts) (env : Env) (xs : List Var) (i : Var) (ty : IntType) (b : Body) (n : ℕ) (S0 S : State) (c : ℕ) → Kept n S0 S c → Turning G env xs i ty b n S0 → Turning G env xs i ty b n S
turning_on G env xs i ty b n S0 S c k on = record { mid = on.mid; last = on.last; stands = stands_kept G env n S0 S c on.stands k; rises = on.rises; index = on.index; sort = on.sort; typed = on.typed; numbered = on.numbered }

-- the same, whatever words lie above
pub kept_below : (n : ℕ) (S S' : State) (s : List ℕ) (c : ℕ) → Kept n (with_stack S s) S' c → Kept n S S' c
kept_below n S S' s c k = record { words = k.words; arrays = k.arrays; handed = k.handed }

kept_above : (n : ℕ) (S S' : State) (s : List ℕ) (c : ℕ) → Kept n S S' c → Kept n (with_stack S s) S' c
kept_above n S S' s c k = record { words = k.words; arrays = k.arrays; handed = k.handed }

module _ (budget : ℕ) (b : Body) (xs : List Var) (i : Var) (ty : IntType) (count mark : ℕ) where
  pub for_start : (S : State) → For_goes budget b xs i ty count mark 0 S S
  unfolding For_goes
  for_start S G env n below cs on lie l =
      let e : count ≡ count - 0 = omega arith in
      turned cs 0 lie (kept_same n S) (subst (λ k. Leads 0 (turns (index_turn budget b xs i ty env) (counts count 0) cs) (turns (index_turn budget b xs i ty env) (counts k 0) cs)) e (leads_same (turns (index_turn budget b xs i ty env) (counts count 0) cs)))

  module _ (j : ℕ) (S0 S : State) (h : For_goes budget b xs i ty count mark j S0 S) where
    module _ (S1 : State) (l : j < count) where
      pub for_stop : (e : Stop) → Turn_runs budget b xs i ty j mark S S1 (Err e) → For_runs budget b xs i ty count mark S0 S1 (Err e)
      unfolding For_goes Turn_runs For_runs
      for_stop e k G env n below cs on lie m = by_turned (h G env n below cs on lie m)
        where
          by_turn : {e : Stop} (ds : Row) (c : ℕ) → Leads c (turns (index_turn budget b xs i ty env) (counts count 0) cs) (turns (index_turn budget b xs i ty env) (j ∷ counts (count - suc j) (suc j)) ds) → Runs (index_turn budget b xs i ty env j ds) (map sort_of xs) n (with_stack S below) S1 (Err e) → Runs (turns (index_turn budget b xs i ty env) (counts count 0) cs) (map sort_of xs) n (with_stack S0 below) S1 (Err e)
          by_turn ds c g (failed {r} f y) = let z = g (Fail r) f (stops y) in failed z.0 z.1
          by_turn ds c g no_memory = no_memory

          by_turned : Turned (turns (index_turn budget b xs i ty env) (counts count 0) cs) (turns (index_turn budget b xs i ty env) (counts (count - j) j)) xs n mark S0 S below → Runs (turns (index_turn budget b xs i ty env) (counts count 0) cs) (map sort_of xs) n (with_stack S0 below) S1 (Err e)
          by_turned (turned ds c lie' k' g) =
              by_turn ds c (subst (λ z. Leads c (turns (index_turn budget b xs i ty env) (counts count 0) cs) (turns (index_turn budget b xs i ty env) z ds)) (counts_next count j l) g)
              (k G env n below ds (turning_on G env xs i ty b n S0 S c k' on) lie' (omega (arith, l, m)))

      pub for_more : Turn_runs budget b xs i ty j mark S S1 (Ok tt) → For_goes budget b xs i ty count mark (j + 1) S0 S1
      unfolding For_goes Turn_runs
      for_more k G env n below cs on lie m =
          subst (λ z. Turned (turns (index_turn budget b xs i ty env) (counts count 0) cs) (turns (index_turn budget b xs i ty env) (counts (count - z) z)) xs n mark S0 S1 below) (sym (add-one j)) (by_turned (h G env n below cs on lie m))
        where
          by_turn : (ds : Row) (c : ℕ) → Kept n S0 S c → length below ≡ mark → Leads c (turns (index_turn budget b xs i ty env) (counts count 0) cs) (turns (index_turn budget b xs i ty env) (j ∷ counts (count - suc j) (suc j)) ds) → Runs (index_turn budget b xs i ty env j ds) (map sort_of xs) n (with_stack S below) S1 (Ok tt) → Turned (turns (index_turn budget b xs i ty env) (counts count 0) cs) (turns (index_turn budget b xs i ty env) (counts (count - suc j) (suc j))) xs n mark S0 S1 below
          by_turn ds c k' p g (ran es ws f q sh w y) =
              turned es (c + f) (record { ws = ws; stack = q; long = p; shown = sh }) (kept_trans n S0 S S1 c f k' (kept_below n S S1 below f w))
              (leads_trans c f (turns (index_turn budget b xs i ty env) (counts count 0) cs) (turns (index_turn budget b xs i ty env) (j ∷ counts (count - suc j) (suc j)) ds) (turns (index_turn budget b xs i ty env) (counts (count - suc j) (suc j)) es) g
              (leads_then (index_turn budget b xs i ty env j ds) (turns (index_turn budget b xs i ty env) (counts (count - suc j) (suc j))) es f y))

          by_turned : Turned (turns (index_turn budget b xs i ty env) (counts count 0) cs) (turns (index_turn budget b xs i ty env) (counts (count - j) j)) xs n mark S0 S below → Turned (turns (index_turn budget b xs i ty env) (counts count 0) cs) (turns (index_turn budget b xs i ty env) (counts (count - suc j) (suc j))) xs n mark S0 S1 below
          by_turned (turned ds c lie' k' g) =
              by_turn ds c k' lie.long (subst (λ z. Leads c (turns (index_turn budget b xs i ty env) (counts count 0) cs) (turns (index_turn budget b xs i ty env) z ds)) (counts_next count j l) g)
              (k G env n below ds (turning_on G env xs i ty b n S0 S c k' on) lie' (omega (arith, l, m)))

    pub for_end : count ≤ j → For_runs budget b xs i ty count mark S0 S (Ok tt)
    unfolding For_goes For_runs
    for_end l G env n below cs on lie m = by_turned (h G env n below cs on lie m)
      where
        by_turned : Turned (turns (index_turn budget b xs i ty env) (counts count 0) cs) (turns (index_turn budget b xs i ty env) (counts (count - j) j)) xs n mark S0 S below → Runs (turns (index_turn budget b xs i ty env) (counts count 0) cs) (map sort_of xs) n (with_stack S0 below) S (Ok tt)
        by_turned (turned ds c lie' k' g) =
            let z = subst (λ z. Leads c (turns (index_turn budget b xs i ty env) (counts count 0) cs) (turns (index_turn budget b xs i ty env) z ds)) (counts_none count j l) g (Val ds) 0 exact in
            ran ds lie'.ws z.0 lie'.stack lie'.shown (record { words = k'.words; arrays = k'.arrays; handed = omega (arith, k'.handed, z.2) }) z.1

pub ruleset counted = (for_start, for_stop, for_more, for_end)

-- ---- one test

-- a stack as it lies, from its length on
module _ (budget : ℕ) (b : Body) (xs : List Var) (mark : ℕ) (S : State) where
  pub test_memory : (S' : State) (e : Stop) → e ≡ Memory → Test_runs budget b xs mark S S' (Err e)
  unfolding Test_runs
  test_memory S' e q G env n mid middle below cs st u g nb lie = subst (λ z. Tested (test_turn (body_runs budget b) xs env cs) G env xs cs n mid S S' (Err z)) (sym q) no_memory_tested

  module _ (t1 : List ℕ) (h : Binds xs mark S.words t1 S.stack (Ok tt)) (S2 : State) where
    bound_kept : (n : ℕ) → ((x : ℕ) → x < n → slice_get t1 x ≡ slice_get S.words x) → Kept n S (state S.arena t1 S.stack) 0
    bound_kept n w = record { words = w; arrays = λ i a v. v; handed = omega arith }

    pub test_run_stop : (e : Stop) → Body_runs budget b (state S.arena t1 S.stack) S2 (Err e) → Test_runs budget b xs mark S S2 (Err e)
    unfolding Binds Test_runs Body_runs
    test_run_stop e k G env n mid middle below cs st u g nb lie = by_names (h G env n mid S.arena.arrays below lie.ws cs st u lie.stack lie.long lie.shown)
      where
        by_run : {e : Stop} (e' : Env) → Leads 0 (test_turn (body_runs budget b) xs env cs) (Then (body_runs budget b e') (λ ds. the (holds ds))) → Runs (body_runs budget b e') (truth_sort ∷ []) mid (state S.arena t1 S.stack) S2 (Err e) → Tested (test_turn (body_runs budget b) xs env cs) G env xs cs n mid S S2 (Err e)
        by_run e' g (failed {r} f y) = let z = g (Fail r) f (stops y) in test_failed z.0 z.1
        by_run e' g no_memory = no_memory_tested

        by_names : Taken G env n mid xs cs S.arena.arrays S.words t1 (Ok tt) → Tested (test_turn (body_runs budget b) xs env cs) G env xs cs n mid S S2 (Err e)
        by_names (taken {e = e'} p st' w) =
            by_run e' (leads_first 0 (under xs cs env (body_runs budget b)) (body_runs budget b e') (λ ds. the (holds ds)) (named_leads xs cs env e' (body_runs budget b) p))
            (k (with_vars xs G) e' (truth_sort ∷ []) mid middle st' g nb)

    pub test_done : (top : ℕ) (s3 : List ℕ) (r : Bool) → top ≡ length S.stack → Body_runs budget b (state S.arena t1 S.stack) S2 (Ok tt) → Pops top S2.stack s3 (Ok r) → Test_runs budget b xs mark S (state S2.arena S2.words s3) (Ok r)
    unfolding Binds Test_runs Body_runs Pops
    test_done top s3 r m k o G env n mid middle below cs st u g nb lie = by_names (h G env n mid S.arena.arrays below lie.ws cs st u lie.stack lie.long lie.shown)
      where
        low : n ≤ mid
        low = upward_rises n (map number xs) mid u

        by_pop : (e' : Env) (ds : Row) (f : ℕ) → bound (map number xs) cs env ≡ Some e' → Stands (with_vars xs G) e' mid S2.arena.arrays S2.words → Kept n S S2 f → Leads 0 (test_turn (body_runs budget b) xs env cs) (Then (body_runs budget b e') (λ ds. the (holds ds))) → body_runs budget b e' (Val ds) f
            → TruthTold (holds ds) (Ok r) → IfTold (s3 ≡ S.stack) (Ok r) → Tested (test_turn (body_runs budget b) xs env cs) G env xs cs n mid S (state S2.arena S2.words s3) (Ok r)
        by_pop e' ds f p st2 w g y (truth_told q) (is_told x) =
            let z = g (Val r) (f + 0) (goes_on y (the_is (holds ds) (Val r) q)) in
            tested e' z.0 p st2 (record { words = w.words; arrays = w.arrays; handed = omega (arith, w.handed, z.2) }) x z.1

        by_run : (e' : Env) → bound (map number xs) cs env ≡ Some e' → Stands (with_vars xs G) e' mid S.arena.arrays t1 → Kept n S (state S.arena t1 S.stack) 0 → Leads 0 (test_turn (body_runs budget b) xs env cs) (Then (body_runs budget b e') (λ ds. the (holds ds))) → Runs (body_runs budget b e') (truth_sort ∷ []) mid (state S.arena t1 S.stack) S2 (Ok tt)
            → Tested (test_turn (body_runs budget b) xs env cs) G env xs cs n mid S (state S2.arena S2.words s3) (Ok r)
        by_run e' p st' w g (ran ds ws f q sh v y) =
            let c = o S2.arena.arrays S.stack ws ds q (sym m) sh in
            by_pop e' ds f p (stands_kept (with_vars xs G) e' mid (state S.arena t1 S.stack) S2 f st' v) (let z = kept_trans n S (state S.arena t1 S.stack) S2 0 f w (kept_less n mid (state S.arena t1 S.stack) S2 f low v) in record { words = z.words; arrays = z.arrays; handed = omega (arith, z.handed) }) g y c.0 c.1

        by_names : Taken G env n mid xs cs S.arena.arrays S.words t1 (Ok tt) → Tested (test_turn (body_runs budget b) xs env cs) G env xs cs n mid S (state S2.arena S2.words s3) (Ok r)
        by_names (taken {e = e'} p st' w) =
            by_run e' p st' (bound_kept n w) (leads_first 0 (under xs cs env (body_runs budget b)) (body_runs budget b e') (λ ds. the (holds ds)) (named_leads xs cs env e' (body_runs budget b) p))
            (k (with_vars xs G) e' (truth_sort ∷ []) mid middle st' g nb)

pub test_over : (budget : ℕ) (b : Body) (xs : List Var) (mark : ℕ) (S : State) (t1 : List ℕ) (S2 : State) (top : ℕ) (s3 : List ℕ) (r : Result Bool Stop) → Binds xs mark S.words t1 S.stack (Ok tt) → top ≡ length S.stack → Body_runs budget b (state S.arena t1 S.stack) S2 (Ok tt) → Pops top S2.stack s3 r → OnlyMemory r → Test_runs budget b xs mark S (state S2.arena S2.words s3) r
test_over budget b xs mark S t1 S2 top s3 (Ok r) h m k o q = test_done budget b xs mark S t1 h S2 top s3 r m k o
test_over budget b xs mark S t1 S2 top s3 (Err e) h m k o q = test_memory budget b xs mark S (state S2.arena S2.words s3) e q

pub ruleset one_test = (test_memory, test_run_stop, test_over)

-- ---- the turns of a loop with a test

unfoldable pub While_goes : ℕ → ℕ → Body → Body → List Var → Place → ℕ → State → State → Type 0
While_goes budget j t b xs at mark S0 S =
    (G : Sorts) (env : Env) (n : ℕ) (below : List ℕ) (cs : Row) → Testing G env xs t b n S0 → Lies xs mark below cs S0
    → Turned (loops budget budget t b xs at env cs) (loops budget (budget - j) t b xs at env) xs n mark S0 S below

-- what a test says of the turns that are left
module _ {B : Type 0} (left : ℕ) (r : Report) (test : B → Rel Bool) (body : B → Rel B) (v : B) where
  while_fails : (q : Report) (f : ℕ) → test v (Fail q) f → while_turns left r test body v (Fail q) f
  while_fails q f y = by_left left
    where
      by_left : (left : ℕ) → while_turns left r test body v (Fail q) f
      by_left zero = stops y
      by_left (suc n) = stops y

  while_over : (f : ℕ) → test v (Val false) f → while_turns left r test body v (Val v) (f + 0)
  while_over f y = by_left left
    where
      by_left : (left : ℕ) → while_turns left r test body v (Val v) (f + 0)
      by_left zero = goes_on y exact
      by_left (suc n) = goes_on y exact

-- after a test that holds, the body is run on the same components
data Body_here (whole : Results) (body : Env → Results) (rest : Row → Results) (G : Sorts) (n mid : ℕ) (S0 S1 : State) (xs : List Var) (below s : List ℕ) : Type 0 where
  body_here : (e : Env) (c : ℕ) → Stands (with_vars xs G) e mid S1.arena.arrays S1.words → Kept n S0 S1 c → s ≡ below → Leads c whole (Then (body e) rest) → Body_here whole body rest G n mid S0 S1 xs below s

module _ (budget : ℕ) (t b : Body) (xs : List Var) (at : Place) (mark : ℕ) where
  pub while_start : (S : State) → While_goes budget 0 t b xs at mark S S
  unfolding While_goes
  while_start S G env n below cs on lie =
      let e : budget ≡ budget - 0 = omega arith in
      turned cs 0 lie (kept_same n S) (subst (λ k. Leads 0 (loops budget budget t b xs at env cs) (loops budget k t b xs at env cs)) e (leads_same (loops budget budget t b xs at env cs)))

  module _ (j : ℕ) (S0 S S1 : State) (h : While_goes budget j t b xs at mark S0 S) where
    pub while_test_stop : (e : Stop) → Test_runs budget t xs mark S S1 (Err e) → While_runs budget t b xs at mark S0 S1 (Err e)
    unfolding While_goes Test_runs While_runs
    while_test_stop e k G env n below cs on lie = by_turned (h G env n below cs on lie)
      where
        by_test : {e : Stop} (ds : Row) (c : ℕ) → Leads c (loops budget budget t b xs at env cs) (loops budget (budget - j) t b xs at env ds) → Tested (test_turn (body_runs budget t) xs env ds) G env xs ds n on.mid S S1 (Err e) → Runs (loops budget budget t b xs at env cs) (map sort_of xs) n (with_stack S0 below) S1 (Err e)
        by_test ds c g (test_failed {r} f y) = let z = g (Fail r) f (while_fails (budget - j) (report kind.Turns at) (test_turn (body_runs budget t) xs env) (λ ds. under xs ds env (body_runs budget b)) ds r f y) in failed z.0 z.1
        by_test ds c g no_memory_tested = no_memory

        by_turned : Turned (loops budget budget t b xs at env cs) (loops budget (budget - j) t b xs at env) xs n mark S0 S below → Runs (loops budget budget t b xs at env cs) (map sort_of xs) n (with_stack S0 below) S1 (Err e)
        by_turned (turned ds c lie' k' g) = by_test ds c g (k G env n on.mid on.middle below ds (stands_kept G env n S0 S c on.stands k') on.rises on.test on.test_numbered lie')

    pub while_done : Test_runs budget t xs mark S S1 (Ok false) → While_runs budget t b xs at mark S0 S1 (Ok tt)
    unfolding While_goes Test_runs While_runs
    while_done k G env n below cs on lie = by_turned (h G env n below cs on lie)
      where
        by_test : (ds : Row) (c : ℕ) → Lies xs mark below ds S → Kept n S0 S c → Leads c (loops budget budget t b xs at env cs) (loops budget (budget - j) t b xs at env ds) → Tested (test_turn (body_runs budget t) xs env ds) G env xs ds n on.mid S S1 (Ok false) → Runs (loops budget budget t b xs at env cs) (map sort_of xs) n (with_stack S0 below) S1 (Ok tt)
        by_test ds c lie' k' g (tested e f y w x d z) =
            let o = g (Val ds) (f + 0) (while_over (budget - j) (report kind.Turns at) (test_turn (body_runs budget t) xs env) (λ ds. under xs ds env (body_runs budget b)) ds f z) in
            let v = kept_trans n S0 S S1 c f k' x in
            ran ds lie'.ws o.0 (d ∙ lie'.stack) (all_on lie'.shown x) (record { words = v.words; arrays = v.arrays; handed = omega (arith, v.handed, o.2) }) o.1
          where
            all_on : {ws : List ℕ} → AllShow S.arena.arrays (map sort_of xs) ds ws → Kept n S S1 f → AllShow S1.arena.arrays (map sort_of xs) ds ws
            all_on {ws} sh x = all_show_on S.arena.arrays S1.arena.arrays (map sort_of xs) ds ws x.arrays sh

        by_turned : Turned (loops budget budget t b xs at env cs) (loops budget (budget - j) t b xs at env) xs n mark S0 S below → Runs (loops budget budget t b xs at env cs) (map sort_of xs) n (with_stack S0 below) S1 (Ok tt)
        by_turned (turned ds c lie' k' g) = by_test ds c lie' k' g (k G env n on.mid on.middle below ds (stands_kept G env n S0 S c on.stands k') on.rises on.test on.test_numbered lie')

    pub while_spent : (r : Report) → budget ≤ j → Test_runs budget t xs mark S S1 (Ok true) → r ≡ report kind.Turns at → While_runs budget t b xs at mark S0 S1 (Err (Failed r))
    unfolding While_goes Test_runs While_runs
    while_spent r m k q G env n below cs on lie = subst (λ z. Runs (loops budget budget t b xs at env cs) (map sort_of xs) n (with_stack S0 below) S1 (Err (Failed z))) (sym q) (by_turned (h G env n below cs on lie))
      where
        none_left : budget - j ≡ 0
        none_left = omega arith

        by_test : (ds : Row) (c : ℕ) → Leads c (loops budget budget t b xs at env cs) (loops budget 0 t b xs at env ds) → Tested (test_turn (body_runs budget t) xs env ds) G env xs ds n on.mid S S1 (Ok true) → Runs (loops budget budget t b xs at env cs) (map sort_of xs) n (with_stack S0 below) S1 (Err (Failed (report kind.Turns at)))
        by_test ds c g (tested e f y w x d z) = let o = g (Fail (report kind.Turns at)) (f + 0) (goes_on z exact) in failed o.0 o.1

        by_turned : Turned (loops budget budget t b xs at env cs) (loops budget (budget - j) t b xs at env) xs n mark S0 S below → Runs (loops budget budget t b xs at env cs) (map sort_of xs) n (with_stack S0 below) S1 (Err (Failed (report kind.Turns at)))
        by_turned (turned ds c lie' k' g) =
            by_test ds c (subst (λ z. Leads c (loops budget budget t b xs at env cs) (loops budget z t b xs at env ds)) none_left g) (k G env n on.mid on.middle below ds (stands_kept G env n S0 S c on.stands k') on.rises on.test on.test_numbered lie')

    body_is : j < budget → Test_runs budget t xs mark S S1 (Ok true) → (G : Sorts) (env : Env) (n : ℕ) (below : List ℕ) (cs : Row) (on : Testing G env xs t b n S0) → Lies xs mark below cs S0 → Body_here (loops budget budget t b xs at env cs) (body_runs budget b) (loops budget (budget - suc j) t b xs at env) G n on.mid S0 S1 xs below (take mark S1.stack)
    unfolding While_goes Test_runs
    body_is m k G env n below cs on lie = by_turned (h G env n below cs on lie)
      where
        some_left : budget - j ≡ suc (budget - suc j)
        some_left = omega arith

        by_test : (ds : Row) (c : ℕ) → Lies xs mark below ds S → Kept n S0 S c → Leads c (loops budget budget t b xs at env cs) (loops budget (suc (budget - suc j)) t b xs at env ds) → Tested (test_turn (body_runs budget t) xs env ds) G env xs ds n on.mid S S1 (Ok true) → Body_here (loops budget budget t b xs at env cs) (body_runs budget b) (loops budget (budget - suc j) t b xs at env) G n on.mid S0 S1 xs below (take mark S1.stack)
        by_test ds c lie' k' g (tested e f y w x d z) =
            body_here e (c + (f + 0)) w (let v = kept_trans n S0 S S1 c f k' x in record { words = v.words; arrays = v.arrays; handed = omega (arith, v.handed) })
            (ap (take mark) (d ∙ lie'.stack) ∙ ap (λ z. take z (below ++ lie'.ws)) (sym lie'.long) ∙ take-append_seam below lie'.ws)
            (leads_trans c (f + 0) (loops budget budget t b xs at env cs) (loops budget (suc (budget - suc j)) t b xs at env ds) (Then (body_runs budget b e) (loops budget (budget - suc j) t b xs at env)) g
            (leads_trans f 0 (loops budget (suc (budget - suc j)) t b xs at env ds) (Then (under xs ds env (body_runs budget b)) (loops budget (budget - suc j) t b xs at env)) (Then (body_runs budget b e) (loops budget (budget - suc j) t b xs at env))
            (leads_then (test_turn (body_runs budget t) xs env ds) (λ goes. choose goes (Then (under xs ds env (body_runs budget b)) (loops budget (budget - suc j) t b xs at env)) (gives 0 ds)) true f z)
            (leads_first 0 (under xs ds env (body_runs budget b)) (body_runs budget b e) (loops budget (budget - suc j) t b xs at env) (named_leads xs ds env e (body_runs budget b) y))))

        by_turned : Turned (loops budget budget t b xs at env cs) (loops budget (budget - j) t b xs at env) xs n mark S0 S below → Body_here (loops budget budget t b xs at env cs) (body_runs budget b) (loops budget (budget - suc j) t b xs at env) G n on.mid S0 S1 xs below (take mark S1.stack)
        by_turned (turned ds c lie' k' g) =
            by_test ds c lie' k' (subst (λ z. Leads c (loops budget budget t b xs at env cs) (loops budget z t b xs at env ds)) some_left g) (k G env n on.mid on.middle below ds (stands_kept G env n S0 S c on.stands k') on.rises on.test on.test_numbered lie')

    module _ (s : List ℕ) (cut : s ≡ take mark S1.stack) (S2 : State) where
      pub while_body_stop : (e : Stop) → j < budget → Test_runs budget t xs mark S S1 (Ok true) → Body_runs budget b (state S1.arena S1.words s) S2 (Err e) → While_runs budget t b xs at mark S0 S2 (Err e)
      unfolding While_runs Body_runs
      while_body_stop e m k a G env n below cs on lie = by_body (body_is m k G env n below cs on lie)
        where
          by_run : {e : Stop} (e' : Env) (c : ℕ) → Leads c (loops budget budget t b xs at env cs) (Then (body_runs budget b e') (loops budget (budget - suc j) t b xs at env)) → Runs (body_runs budget b e') (map sort_of xs) on.middle (state S1.arena S1.words s) S2 (Err e) → Runs (loops budget budget t b xs at env cs) (map sort_of xs) n (with_stack S0 below) S2 (Err e)
          by_run e' c g (failed {r} f y) = let z = g (Fail r) f (stops y) in failed z.0 z.1
          by_run e' c g no_memory = no_memory

          by_body : Body_here (loops budget budget t b xs at env cs) (body_runs budget b) (loops budget (budget - suc j) t b xs at env) G n on.mid S0 S1 xs below (take mark S1.stack) → Runs (loops budget budget t b xs at env cs) (map sort_of xs) n (with_stack S0 below) S2 (Err e)
          by_body (body_here e' c w x d g) = by_run e' c g (a (with_vars xs G) e' (map sort_of xs) on.middle on.last (stands_more (with_vars xs G) e' on.mid on.middle S1.arena.arrays S1.words (body_rises t on.mid on.middle on.test_numbered) w) on.typed on.numbered)

      pub while_more : j < budget → Test_runs budget t xs mark S S1 (Ok true) → Body_runs budget b (state S1.arena S1.words s) S2 (Ok tt) → While_goes budget (j + 1) t b xs at mark S0 S2
      unfolding While_goes Body_runs
      while_more m k a G env n below cs on lie =
          subst (λ z. Turned (loops budget budget t b xs at env cs) (loops budget (budget - z) t b xs at env) xs n mark S0 S2 below) (sym (add-one j)) (by_body (body_is m k G env n below cs on lie))
        where
          by_run : (e' : Env) (c : ℕ) → Kept n S0 S1 c → s ≡ below → Leads c (loops budget budget t b xs at env cs) (Then (body_runs budget b e') (loops budget (budget - suc j) t b xs at env)) → Runs (body_runs budget b e') (map sort_of xs) on.middle (state S1.arena S1.words s) S2 (Ok tt) → Turned (loops budget budget t b xs at env cs) (loops budget (budget - suc j) t b xs at env) xs n mark S0 S2 below
          by_run e' c x d g (ran ds ws f q sh w y) =
              let low = upward_rises n (map number xs) on.mid on.rises in
              let up = body_rises t on.mid on.middle on.test_numbered in
              turned ds (c + f) (record { ws = ws; stack = q ∙ ap (λ z. z ++ ws) d; long = lie.long; shown = sh })
              (kept_trans n S0 S1 S2 c f x (kept_less n on.middle S1 S2 f (omega (arith, low, up)) (kept_below on.middle S1 S2 s f w)))
              (leads_trans c f (loops budget budget t b xs at env cs) (Then (body_runs budget b e') (loops budget (budget - suc j) t b xs at env)) (loops budget (budget - suc j) t b xs at env ds) g
              (leads_then (body_runs budget b e') (loops budget (budget - suc j) t b xs at env) ds f y))

          by_body : Body_here (loops budget budget t b xs at env cs) (body_runs budget b) (loops budget (budget - suc j) t b xs at env) G n on.mid S0 S1 xs below (take mark S1.stack) → Turned (loops budget budget t b xs at env cs) (loops budget (budget - suc j) t b xs at env) xs n mark S0 S2 below
          by_body (body_here e' c w x d g) = by_run e' c x (cut ∙ d) g (a (with_vars xs G) e' (map sort_of xs) on.middle on.last (stands_more (with_vars xs G) e' on.mid on.middle S1.arena.arrays S1.words (body_rises t on.mid on.middle on.test_numbered) w) on.typed on.numbered)

pub ruleset uncounted = (while_start, while_test_stop, while_done, while_spent, while_body_stop, while_more)
