-- Steps of a block, one after the other.
use Rattle.std.proofs.Common.{◌≡◌, ℕ, zero, suc, ◌+◌, ◌<◌, ◌≤◌, List, [], ◌∷◌, length, get_or, map, drop, Some, Ok, Err, refl, sym, ap, ◌∙◌, subst, arith, add-one}
use Rattle.std.proofs.Math.Seq.{drop-cons}
use Rattle.fut_meaning.specs.Accessors.{or_wrong}
use Rattle.fut_meaning.specs.Outcomes.{Val, Fail, Rel, goes_on, stops}
use Rattle.fut_blocks.specs.Meaning.{bound}
use Rattle.core_ir.specs.declared.block.Var.{Var}
use Rattle.core_ir.specs.declared.block.Atom.{Atom}
use Rattle.core_ir.specs.declared.block.Operation.{Operation}
use Rattle.core_ir.specs.declared.block.Op.TheVariants as op
use Rattle.core_ir.specs.declared.block.Block.{Block, out-Block}
use Rattle.core_ir.specs.declared.block.Step.{Step, out-Step}
use Rattle.core_ir.specs.Bundles.{Row}
use Rattle.core_ir.specs.Meaning.{Env, number, named, under, values_of, body_means}
use Rattle.core_ir.specs.Numbered.{Act_numbered, Body_numbered, Function_numbered}
use Rattle.core_ir.specs.Plain.{Action, Operate, Do, Map, Filter, Partition, Reduce, Scan, Scatter, Hist, If, For, For_in, While, Function, Of_two, Body, Give, Let, lets, action_of, binding_of, body_of}
use Rattle.core_ir.specs.Typed.{Sort, Sorts, sort_of, with_vars, Body_gives, give_gives, let_gives}
use Rattle.core_ir.proofs.Layers.{action_of-Operate, body_of-parts, binding_of-parts}
use Rattle.core_code.specs.Registers.{State, state, Stands, Kept}
use Rattle.core_code.specs.Answers.{Answer, ReadAll, read_all, no_memory_read_all, Reads_all, IfDone, done, Taken, taken, not_taken, Takes, Runs, ran, failed, no_memory, Stepped, stepped, step_failed, no_memory_stepped}
use Rattle.core_code.specs.Runs.{act_runs, body_runs, Act_runs, Body_runs, step_means, Step_runs}
use Rattle.core_code.specs.declared.stop.Stop.{Stop}
use Rattle.core_code.proofs.Frames.{the_is, Leads, leads_same, leads_trans, leads_then, runs_on, kept_same, kept_less, kept_trans, stands_kept, stands_more}
use Rattle.core_code.proofs.Storing.{upward_rises}

-- numbers only rise
mutual
  unfolding Act_numbered Function_numbered Body_numbered

  pub act_rises : (a : Action) (n m : ℕ) → Act_numbered n a m → n ≤ m
  act_rises (Operate o at) n m h = h
  act_rises (Do d at uss) n m h = h
  act_rises (Map at source told xs b) n m (k, hx, hb) = let q = upward_rises n (map number xs) k hx in let r = body_rises b k m hb in omega arith
  act_rises (Filter at r xs b) n m (k, hx, hb) = let q = upward_rises n (map number xs) k hx in let r = body_rises b k m hb in omega arith
  act_rises (Partition at r xs b) n m (k, hx, hb) = let q = upward_rises n (map number xs) k hx in let r = body_rises b k m hb in omega arith
  act_rises (Reduce at us r f) n m h = function_rises f n m h
  act_rises (Scan at us r f) n m h = function_rises f n m h
  act_rises (Scatter at us i ws) n m h = h
  act_rises (Hist at us zs i r f) n m h = function_rises f n m h
  act_rises (If c a b) n m (k, ha, hb) = let p = body_rises a n k ha in let q = body_rises b k m hb in omega arith
  act_rises (For xs us i c b) n m (k, hx, hi, hb) = let p = upward_rises n (map number xs) k hx in let q = body_rises b (suc i.number) m hb in omega arith
  act_rises (For_in at xs us ys r b) n m (k, hx, l, hy, hb) = let p = upward_rises n (map number xs) k hx in let q = upward_rises k (map number ys) l hy in let r = body_rises b l m hb in omega arith
  act_rises (While at xs us t b) n m (k, hx, l, ht, hb) = let p = upward_rises n (map number xs) k hx in let q = body_rises t k l ht in let r = body_rises b l m hb in omega arith

  pub function_rises : (f : Function) (n m : ℕ) → Function_numbered n f m → n ≤ m
  function_rises (Of_two xs ys b) n m (k, hx, l, hy, hb) = let p = upward_rises n (map number xs) k hx in let q = upward_rises k (map number ys) l hy in let r = body_rises b l m hb in omega arith

  pub body_rises : (b : Body) (n m : ℕ) → Body_numbered n b m → n ≤ m
  body_rises (Give us) n m h = h
  body_rises (Let xs a b) n m (k, ha, l, hx, hb) = let p = act_rises a n k ha in let q = upward_rises k (map number xs) l hx in let r = body_rises b l m hb in omega arith

pub the_bound : (xs : List Var) (cs : Row) (env e : Env) → bound (map number xs) cs env ≡ Some e → named xs cs env (Val e) 0
the_bound xs cs env e q = the_is (or_wrong (bound (map number xs) cs env)) (Val e) (ap or_wrong q)

pub named_leads : {A : Type 0} (xs : List Var) (cs : Row) (env e : Env) (k : Env → Rel A) → bound (map number xs) cs env ≡ Some e → Leads 0 (under xs cs env k) (k e)
named_leads xs cs env e k q = leads_then (named xs cs env) k e 0 (the_bound xs cs env e q)

-- ---- a step: its act, and then its names

module _ (budget : ℕ) (d : Step) (S S1 : State) where
  act_stop : (p : List Var × Action) (e : Stop) → Act_runs budget p.1 S S1 (Err e) → Step_runs budget p S S1 (Err e)
  unfolding Act_runs Step_runs
  act_stop p e h G env n mid last st k na u = by_run (h G env (map sort_of p.0) n mid st k na)
    where
      by_run : {e : Stop} → Runs (act_runs budget p.1 env) (map sort_of p.0) n S S1 (Err e) → Stepped (step_means budget p env) (with_vars p.0 G) n last S S1 (Err e)
      by_run (failed f y) = step_failed f (stops y)
      by_run no_memory = no_memory_stepped

  act_take : (p : List Var × Action) (t2 s2 : List ℕ) (mark : ℕ) (r : Answer) → mark ≡ length S.stack → Act_runs budget p.1 S S1 (Ok tt) → Takes p.0 mark S1.words t2 S1.stack s2 r → Step_runs budget p S (state S1.arena t2 s2) r
  unfolding Act_runs Step_runs Takes
  act_take p t2 s2 mark r m h k G env n mid last st g na u = by_run (h G env (map sort_of p.0) n mid st g na)
    where
      low : n ≤ mid
      low = act_rises p.1 n mid na

      by_names : (cs : Row) (f : ℕ) (r : Answer) → Kept n S S1 f → act_runs budget p.1 env (Val cs) f → Taken G env mid last p.0 cs S1.arena.arrays S1.words t2 r → IfDone (s2 ≡ S.stack) r → Stepped (step_means budget p env) (with_vars p.0 G) n last S (state S1.arena t2 s2) r
      by_names cs f _ q y (taken {e} b z w) (done x) =
          stepped e (f + 0) z (record { words = λ i l. w i (omega (arith, low)) ∙ q.words i l; arrays = q.arrays; handed = omega (arith, q.handed) }) x (goes_on y (the_bound p.0 cs env e b))
      by_names cs f _ q y not_taken x = no_memory_stepped

      by_run : Runs (act_runs budget p.1 env) (map sort_of p.0) n S S1 (Ok tt) → Stepped (step_means budget p env) (with_vars p.0 G) n last S (state S1.arena t2 s2) r
      by_run (ran cs ws f e q w y) =
          let c = k G env mid last S1.arena.arrays S.stack ws cs (stands_more G env n mid S1.arena.arrays S1.words low (stands_kept G env n S S1 f st w)) u e (sym m) q in
          by_names cs f r w y c.0 c.1

  pub step_stop : (e : Stop) → Act_runs budget (action_of (out-Step d).op (out-Step d).place) S S1 (Err e) → Step_runs budget (binding_of d) S S1 (Err e)
  step_stop e h = subst (λ p. Step_runs budget p S S1 (Err e)) (sym (binding_of-parts d)) (act_stop ((out-Step d).out.now, action_of (out-Step d).op (out-Step d).place) e h)

  pub step_done : (t2 s2 : List ℕ) (mark : ℕ) (r : Answer) → mark ≡ length S.stack → Act_runs budget (action_of (out-Step d).op (out-Step d).place) S S1 (Ok tt) → Takes (out-Step d).out.now mark S1.words t2 S1.stack s2 r → Step_runs budget (binding_of d) S (state S1.arena t2 s2) r
  step_done t2 s2 mark r m h k = subst (λ p. Step_runs budget p S (state S1.arena t2 s2) r) (sym (binding_of-parts d)) (act_take ((out-Step d).out.now, action_of (out-Step d).op (out-Step d).place) t2 s2 mark r m h k)

  pub step_operated : (o : Operation) (r : Answer) → (out-Step d).op ≡ op.Operate o → Step_runs budget ((out-Step d).out.now, Operate o (out-Step d).place) S S1 r → Step_runs budget (binding_of d) S S1 r
  step_operated o r e h =
      subst (λ p. Step_runs budget p S S1 r) (sym (binding_of-parts d ∙ ap (λ z. ((out-Step d).out.now, z)) (ap (λ z. action_of z (out-Step d).place) e ∙ action_of-Operate o (out-Step d).place))) h

pub ruleset one_step = (step_stop, step_done, step_operated)

-- ---- some steps are done: what the rest comes to, the whole may

pub data Going (budget : ℕ) (b rest : Body) (env : Env) (ss : List Sort) (n last : ℕ) (S0 S : State) : Type 0 where
  going : (G : Sorts) (e : Env) (k c : ℕ) → n ≤ k → Stands G e k S.arena.arrays S.words → Body_gives G rest ss → Body_numbered k rest last → Kept n S0 S c → S.stack ≡ S0.stack → Leads c (body_runs budget b env) (body_runs budget rest e) → Going budget b rest env ss n last S0 S

unfoldable pub Block_goes : ℕ → Block → ℕ → State → State → Type 0
Block_goes budget b i S0 S =
    (G : Sorts) (env : Env) (ss : List Sort) (n last : ℕ) → Stands G env n S0.arena.arrays S0.words → Body_gives G (body_of b) ss → Body_numbered n (body_of b) last
    → Going budget (body_of b) (lets (map binding_of (drop i (out-Block b).steps.now)) (out-Block b).results.now) env ss n last S0 S

pub block_start : (budget : ℕ) (b : Block) (S : State) → Block_goes budget b 0 S S
unfolding Block_goes
block_start budget b S G env ss n last st g nb =
    subst (λ z. Going budget (body_of b) z env ss n last S S) (body_of-parts b) (going G env n 0 (omega arith) st g nb (kept_same n S) refl (leads_same (body_runs budget (body_of b) env)))

module _ (budget : ℕ) (b : Block) (i : ℕ) (d : Step) (S0 S S1 : State) (l : i < length (out-Block b).steps.now) (h : Block_goes budget b i S0 S) where
  abbrev first : List Var × Action
  first = binding_of (get_or (out-Block b).steps.now i d)

  abbrev after : Body
  after = lets (map binding_of (drop (suc i) (out-Block b).steps.now)) (out-Block b).results.now

  here : lets (map binding_of (drop i (out-Block b).steps.now)) (out-Block b).results.now ≡ Let first.0 first.1 after
  unfolding lets
  here = ap (λ z. lets (map binding_of z) (out-Block b).results.now) (drop-cons (out-Block b).steps.now i d l)

  pub block_stop : (e : Stop) → Step_runs budget first S S1 (Err e) → Body_runs budget (body_of b) S0 S1 (Err e)
  unfolding Block_goes Step_runs Body_runs Body_numbered body_means
  block_stop e k G env ss n last st g nb = by_going (subst (λ z. Going budget (body_of b) z env ss n last S0 S) here (h G env ss n last st g nb))
    where
      by_step : {e : Stop} (G' : Sorts) (e' : Env) (k' last' c : ℕ) → Leads c (body_runs budget (body_of b) env) (body_runs budget (Let first.0 first.1 after) e') → Stepped (step_means budget first e') G' k' last' S S1 (Err e) → Runs (body_runs budget (body_of b) env) ss n S0 S1 (Err e)
      by_step G' e' k' last' c g (step_failed {r} f y) = let z = g (Fail r) f (stops y) in failed z.0 z.1
      by_step G' e' k' last' c g no_memory_stepped = no_memory

      by_gives : (G : Sorts) (e' : Env) (k' c : ℕ) → Stands G e' k' S.arena.arrays S.words → Body_gives G (Let first.0 first.1 after) ss → Body_numbered k' (Let first.0 first.1 after) last → Leads c (body_runs budget (body_of b) env) (body_runs budget (Let first.0 first.1 after) e') → Runs (body_runs budget (body_of b) env) ss n S0 S1 (Err e)
      by_gives G e' k' c st' (let_gives ga gb) (mid, na, last', u, nb') g = by_step (with_vars first.0 G) e' k' last' c g (k G e' k' mid last' st' ga na u)

      by_going : Going budget (body_of b) (Let first.0 first.1 after) env ss n last S0 S → Runs (body_runs budget (body_of b) env) ss n S0 S1 (Err e)
      by_going (going G e' k' c p st' gb nb' q w g) = by_gives G e' k' c st' gb nb' g

  pub block_more : Step_runs budget first S S1 (Ok tt) → Block_goes budget b (i + 1) S0 S1
  unfolding Block_goes Step_runs Body_numbered body_means
  block_more k G env ss n last st g nb =
      subst (λ j. Going budget (body_of b) (lets (map binding_of (drop j (out-Block b).steps.now)) (out-Block b).results.now) env ss n last S0 S1) (sym (add-one i))
      (by_going (subst (λ z. Going budget (body_of b) z env ss n last S0 S) here (h G env ss n last st g nb)))
    where
      by_step : (G' : Sorts) (e' : Env) (k' last' c : ℕ) → n ≤ k' → k' ≤ last' → Kept n S0 S c → S.stack ≡ S0.stack → Body_gives G' after ss → Body_numbered last' after last → Leads c (body_runs budget (body_of b) env) (body_runs budget (Let first.0 first.1 after) e') → Stepped (step_means budget first e') G' k' last' S S1 (Ok tt) → Going budget (body_of b) after env ss n last S0 S1
      by_step G' e' k' last' c p p' q w gb nb' g (stepped e f z v x y) =
          going G' e last' (c + f) (omega arith) z gb nb' (kept_trans n S0 S S1 c f q (kept_less n k' S S1 f p v)) (x ∙ w)
          (leads_trans c f (body_runs budget (body_of b) env) (body_runs budget (Let first.0 first.1 after) e') (body_runs budget after e) g (leads_then (step_means budget first e') (body_runs budget after) e f y))

      by_gives : (G : Sorts) (e' : Env) (k' c : ℕ) → n ≤ k' → Stands G e' k' S.arena.arrays S.words → Body_gives G (Let first.0 first.1 after) ss → Body_numbered k' (Let first.0 first.1 after) last → Kept n S0 S c → S.stack ≡ S0.stack → Leads c (body_runs budget (body_of b) env) (body_runs budget (Let first.0 first.1 after) e') → Going budget (body_of b) after env ss n last S0 S1
      by_gives G e' k' c p st' (let_gives ga gb) (mid, na, last', u, nb') q w g =
          by_step (with_vars first.0 G) e' k' last' c p (let z = act_rises first.1 k' mid na in let y = upward_rises mid (map number first.0) last' u in omega arith) q w gb nb' g (k G e' k' mid last' st' ga na u)

      by_going : Going budget (body_of b) (Let first.0 first.1 after) env ss n last S0 S → Going budget (body_of b) after env ss n last S0 S1
      by_going (going G e' k' c p st' gb nb' q w g) = by_gives G e' k' c p st' gb nb' q w g

drop_past : {A : Type 0} (xs : List A) (n : ℕ) → length xs ≤ n → drop n xs ≡ []
drop_past [] zero l = refl
drop_past [] (suc n) l = refl
drop_past (x ∷ xs) zero l = absurd (omega arith)
drop_past (x ∷ xs) (suc n) l = drop_past xs n (omega arith)

pub block_end : (budget : ℕ) (b : Block) (i : ℕ) (S0 S : State) (s1 : List ℕ) (r : Answer) → length (out-Block b).steps.now ≤ i → Block_goes budget b i S0 S → Reads_all S.words (out-Block b).results.now S.stack s1 r → Body_runs budget (body_of b) S0 (state S.arena S.words s1) r
unfolding Block_goes Body_runs Reads_all lets body_means
block_end budget b i S0 S s1 r l h k G env ss n last st g nb =
    by_going (subst (λ z. Going budget (body_of b) (lets (map binding_of z) (out-Block b).results.now) env ss n last S0 S) (drop_past (out-Block b).steps.now i l) (h G env ss n last st g nb))
  where
    us : List Atom
    us = (out-Block b).results.now

    by_read : {r : Answer} (e : Env) → ReadAll (values_of e (out-Block b).results.now) S.arena.arrays ss S.stack s1 r → Runs (body_runs budget (Give (out-Block b).results.now) e) ss n S (state S.arena S.words s1) r
    by_read e (read_all {cs} {ws} q sh w) = ran cs ws 0 w sh (record { words = λ x l. refl; arrays = λ i a e. e; handed = omega arith }) (the_is (values_of e (out-Block b).results.now) (Val cs) q)
    by_read e no_memory_read_all = no_memory

    by_give : (G : Sorts) (e : Env) (k' c : ℕ) → Stands G e k' S.arena.arrays S.words → Body_gives G (Give (out-Block b).results.now) ss → Kept n S0 S c → S.stack ≡ S0.stack → Leads c (body_runs budget (body_of b) env) (body_runs budget (Give (out-Block b).results.now) e) → Runs (body_runs budget (body_of b) env) ss n S0 (state S.arena S.words s1) r
    by_give G e k' c st' (give_gives a) q w g =
        runs_on (body_runs budget (body_of b) env) (body_runs budget (Give (out-Block b).results.now) e) ss n n S0 S (state S.arena S.words s1) c r (omega arith) q w g (by_read e (k G e k' S.arena.arrays ss st' a))

    by_going : Going budget (body_of b) (Give (out-Block b).results.now) env ss n last S0 S → Runs (body_runs budget (body_of b) env) ss n S0 (state S.arena S.words s1) r
    by_going (going G e k' c p st' gb nb' q w g) = by_give G e k' c st' gb q w g

pub ruleset all_steps = (block_start, block_stop, block_more, block_end)
