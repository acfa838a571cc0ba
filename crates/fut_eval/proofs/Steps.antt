-- Steps of a block, one after the other.
use Rattle.std.proofs.Common.{◌≡◌, ℕ, zero, suc, ◌+◌, ◌<◌, ◌≤◌, List, [], ◌∷◌, length, get_or, map, drop, Some, None, Ok, Err, refl, sym, ap, ◌∙◌, subst, arith, add-one, true}
use Rattle.std.proofs.Math.Seq.{drop-cons}
use Rattle.fut_meaning.specs.Accessors.{or_wrong}
use Rattle.fut_meaning.specs.Outcomes.{Val, Fail, Wrong, Rel, Then, goes_on, stops, sticks}
use Rattle.fut_blocks.specs.declared.block.Block.{Block, out-Block}
use Rattle.fut_blocks.specs.declared.block.Step.{Step}
use Rattle.fut_blocks.specs.Plain.{Action, Operate, Tuple, Make, Read, Size_of, Coerce, Job, If, For, Over, While, Body, Give, Let, lets, action_of, binding_of, body_of}
use Rattle.fut_blocks.specs.Meaning.{Component, Names, bound, named, act_means, body_means}
use Rattle.fut_blocks.specs.Numbered.{Act_numbered, Body_numbered}
use Rattle.fut_blocks.proofs.Layers.{body_of-parts, binding_of-parts}
use Rattle.array_data.specs.declared.stop.Stop.{Stop}
use Rattle.fut_eval.specs.Answers.{Answer, IfDone, done, Stands, Kept, Runs, ran, failed, no_memory, gone, Bound, is_bound, no_memory_bound, unbound, Takes, Reads_all}
use Rattle.array_data.specs.declared.data.Data.{Data}
use Rattle.array_data.specs.Held.{held_all}
use Rattle.fut_eval.proofs.Holding.{held_length}
use Rattle.fut_eval.specs.Runs.{Act_runs, Body_runs, step_means, Stepped, stepped, step_failed, no_memory_stepped, step_gone, Step_runs}
use Rattle.fut_eval.proofs.Tells.{the_is, Leads, leads_same, leads_trans, leads_then, runs_in, runs_after, runs_less, kept_same, kept_less, kept_trans, stands_kept, stands_more}
use Rattle.fut_eval.proofs.Storing.{upward_rises}

-- numbers only rise
mutual
  unfolding Act_numbered Body_numbered

  pub act_rises : (a : Action) (n m : ℕ) → Act_numbered n a m → n ≤ m
  act_rises (Operate o) n m h = h
  act_rises (Tuple us) n m h = h
  act_rises (Make row o at us) n m h = h
  act_rises (Read k us) n m h = h
  act_rises (Size_of e) n m h = h
  act_rises (Coerce at t r) n m h = h
  act_rises (Job row p at us xs b) n m (k, hx, hb) = let q = upward_rises n xs k hx in let r = body_rises b k m hb in omega arith
  act_rises (If c a b) n m (k, ha, hb) = let p = body_rises a n k ha in let q = body_rises b k m hb in omega arith
  act_rises (For xs us i c b) n m (k, hx, hi, hb) = let p = upward_rises n xs k hx in let q = body_rises b (suc i) m hb in omega arith
  act_rises (Over xs us x r b) n m (k, hx, hi, hb) = let p = upward_rises n xs k hx in let q = body_rises b (suc x) m hb in omega arith
  act_rises (While at xs us t b) n m (k, hx, l, ht, hb) = let p = upward_rises n xs k hx in let q = body_rises t k l ht in let r = body_rises b l m hb in omega arith

  pub body_rises : (b : Body) (n m : ℕ) → Body_numbered n b m → n ≤ m
  body_rises (Give us) n m h = h
  body_rises (Let xs a b) n m (k, ha, l, hx, hb) = let p = act_rises a n k ha in let q = upward_rises k xs l hx in let r = body_rises b l m hb in omega arith

the_bound : (xs : List ℕ) (vs : List Component) (env e : Names Component) → bound xs vs env ≡ Some e → named xs vs env (Val e) 0
the_bound xs vs env e q = the_is (or_wrong (bound xs vs env)) (Val e) (ap or_wrong q)

the_unbound : (xs : List ℕ) (vs : List Component) (env : Names Component) → bound xs vs env ≡ None → named xs vs env Wrong 0
the_unbound xs vs env q = the_is (or_wrong (bound xs vs env)) Wrong (ap or_wrong q)

pub named_leads : {A : Type 0} (xs : List ℕ) (vs : List Component) (env e : Names Component) (k : Names Component → Rel A) → bound xs vs env ≡ Some e → Leads (Then (named xs vs env) k) (k e)
named_leads xs vs env e k q = leads_then (named xs vs env) k e 0 (the_bound xs vs env e q)

pub named_wrong : {A : Type 0} (xs : List ℕ) (vs : List Component) (env : Names Component) (k : Names Component → Rel A) → bound xs vs env ≡ None → Then (named xs vs env) k Wrong 0
named_wrong xs vs env k q = sticks (the_unbound xs vs env q)

-- a step: its act, and then its names
module _ (budget : ℕ) (d : Step) (t t1 s s1 : List Component) where
  step_act_stop : (p : List ℕ × Action) (e : Stop) → Act_runs budget p.1 t t1 s s1 (Err e) → Step_runs budget p t t1 s s1 (Err e)
  unfolding Act_runs Step_runs
  step_act_stop p e h env n mid last st na u l = by_run (h env n mid st na (let q = upward_rises mid p.0 last u in omega arith))
    where
      by_run : {e : Stop} → Runs (act_means true budget p.1 env) n t t1 s s1 (Err e) → Stepped (step_means budget p env) n last t t1 s s1 (Err e)
      by_run (failed f y) = step_failed f (stops y)
      by_run no_memory = no_memory_stepped
      by_run (gone f y) = step_gone f (sticks y)

  step_take : (p : List ℕ × Action) (t2 s2 : List Component) (mark : ℕ) (r : Answer) → mark ≡ length s → Act_runs budget p.1 t t1 s s1 (Ok tt) → Takes p.0 mark t1 t2 s1 s2 r → Step_runs budget p t t2 s s2 r
  unfolding Act_runs Step_runs Takes
  step_take p t2 s2 mark r m h k env n mid last st na u l = by_run (h env n mid st na (let q = upward_rises mid p.0 last u in omega arith))
    where
      by_names : (vs : List Component) (f : ℕ) (r : Answer) → Kept n t t1 → act_means true budget p.1 env (Val vs) f → Bound env mid last p.0 vs t1 t2 r → IfDone (s2 ≡ s) r → Stepped (step_means budget p env) n last t t2 s s2 r
      by_names vs f _ q y (is_bound e b z w) (done x) = stepped e (f + 0) z (kept_trans n t t1 t2 q (kept_less n mid t1 t2 (act_rises p.1 n mid na) w)) x (goes_on y (the_bound p.0 vs env e b))
      by_names vs f _ q y no_memory_bound x = no_memory_stepped
      by_names vs f r q y (unbound b) x = step_gone (f + 0) (goes_on y (the_unbound p.0 vs env b))

      by_run : Runs (act_means true budget p.1 env) n t t1 s s1 (Ok tt) → Stepped (step_means budget p env) n last t t2 s s2 r
      by_run (ran vs f e q w y) =
          let c = k env mid last s vs (stands_more env n mid t1 (act_rises p.1 n mid na) (stands_kept env n t t1 st w)) u (let z = w.long in omega arith) e (sym m) q in
          by_names vs f r w y c.0 c.1
      by_run (gone f y) = step_gone f (sticks y)

  pub step_stop : (e : Stop) → Act_runs budget (action_of d.act) t t1 s s1 (Err e) → Step_runs budget (binding_of d) t t1 s s1 (Err e)
  step_stop e h = subst (λ p. Step_runs budget p t t1 s s1 (Err e)) (sym (binding_of-parts d)) (step_act_stop (d.names.now, action_of d.act) e h)

  pub step_done : (t2 s2 : List Component) (mark : ℕ) (r : Answer) → mark ≡ length s → Act_runs budget (action_of d.act) t t1 s s1 (Ok tt) → Takes d.names.now mark t1 t2 s1 s2 r → Step_runs budget (binding_of d) t t2 s s2 r
  step_done t2 s2 mark r m h k = subst (λ p. Step_runs budget p t t2 s s2 r) (sym (binding_of-parts d)) (step_take (d.names.now, action_of d.act) t2 s2 mark r m h k)

pub held_step_done : (budget : ℕ) (d : Step) (t : List Component) (t1 given : List Data) (s : List Data) (s1 t2 s2 : List Component) (mark : ℕ) (r : Answer) → mark ≡ length s → Act_runs budget (action_of d.act) t (held_all t1) (held_all s) s1 (Ok tt) → given ≡ t1 → Takes d.names.now mark (held_all given) t2 s1 s2 r → Step_runs budget (binding_of d) t t2 (held_all s) s2 r
held_step_done budget d t t1 given s s1 t2 s2 mark r m h e k = step_done budget d t (held_all t1) (held_all s) s1 t2 s2 mark r (m ∙ sym (held_length s)) h (subst (λ z. Takes d.names.now mark (held_all z) t2 s1 s2 r) e k)

pub ruleset one_step = (step_stop, held_step_done)

-- some steps are done: what the rest comes to, the whole may
pub data Going (budget : ℕ) (b rest : Body) (env : Names Component) (n last : ℕ) (t0 t s0 s : List Component) : Type 0 where
  going : (e : Names Component) (k : ℕ) → n ≤ k → Stands e k t → Body_numbered k rest last → Kept n t0 t → s ≡ s0 → Leads (body_means true budget b env) (body_means true budget rest e) → Going budget b rest env n last t0 t s0 s
  went_wrong : (f : ℕ) → body_means true budget b env Wrong f → Going budget b rest env n last t0 t s0 s

unfoldable pub Block_goes : ℕ → Block → ℕ → (t0 t s0 s : List Component) → Type 0
Block_goes budget b i t0 t s0 s =
    (env : Names Component) (n last : ℕ) → Stands env n t0 → Body_numbered n (body_of b) last → last ≤ length t0
    → Going budget (body_of b) (lets (map binding_of (drop i (out-Block b).steps.now)) (out-Block b).results.now) env n last t0 t s0 s

pub block_start : (budget : ℕ) (b : Block) (t s : List Component) → Block_goes budget b 0 t t s s
unfolding Block_goes
block_start budget b t s env n last st nb l =
    subst (λ z. Going budget (body_of b) z env n last t t s s) (body_of-parts b) (going env n (omega arith) st nb (kept_same n t) refl (leads_same (body_means true budget (body_of b) env)))

module _ (budget : ℕ) (b : Block) (i : ℕ) (d : Step) (t0 t t1 s0 s s1 : List Component) (l : i < length (out-Block b).steps.now) (h : Block_goes budget b i t0 t s0 s) where
  abbrev first : List ℕ × Action
  first = binding_of (get_or (out-Block b).steps.now i d)

  abbrev after : Body
  after = lets (map binding_of (drop (suc i) (out-Block b).steps.now)) (out-Block b).results.now

  here : lets (map binding_of (drop i (out-Block b).steps.now)) (out-Block b).results.now ≡ Let first.0 first.1 after
  unfolding lets
  here = ap (λ z. lets (map binding_of z) (out-Block b).results.now) (drop-cons (out-Block b).steps.now i d l)

  pub block_stop : (e : Stop) → Step_runs budget first t t1 s s1 (Err e) → Body_runs budget (body_of b) t0 t1 s0 s1 (Err e)
  unfolding Block_goes Step_runs Body_runs Body_numbered body_means
  block_stop e k env n last st nb m = by_going (subst (λ z. Going budget (body_of b) z env n last t0 t s0 s) here (h env n last st nb m))
    where
      by_step : {e : Stop} (e' : Names Component) (k' last' : ℕ) → Leads (body_means true budget (body_of b) env) (body_means true budget (Let first.0 first.1 after) e') → Stepped (step_means budget first e') k' last' t t1 s s1 (Err e) → Runs (body_means true budget (body_of b) env) n t0 t1 s0 s1 (Err e)
      by_step e' k' last' g (step_failed {r} f y) = let z = g (Fail r) f (stops y) in failed z.0 z.1
      by_step e' k' last' g no_memory_stepped = no_memory
      by_step e' k' last' g (step_gone f y) = let z = g Wrong f (sticks y) in gone z.0 z.1

      by_going : Going budget (body_of b) (Let first.0 first.1 after) env n last t0 t s0 s → Runs (body_means true budget (body_of b) env) n t0 t1 s0 s1 (Err e)
      by_going (going e' k' p st' (mid, na, last', u, nb') q w g) = by_step e' k' last' g (k e' k' mid last' st' na u (let z = body_rises after last' last nb' in omega (arith, q.long)))
      by_going (went_wrong f y) = gone f y

  pub block_more : Step_runs budget first t t1 s s1 (Ok tt) → Block_goes budget b (i + 1) t0 t1 s0 s1
  unfolding Block_goes Step_runs Body_numbered body_means
  block_more k env n last st nb m =
      subst (λ j. Going budget (body_of b) (lets (map binding_of (drop j (out-Block b).steps.now)) (out-Block b).results.now) env n last t0 t1 s0 s1) (sym (add-one i))
      (by_going (subst (λ z. Going budget (body_of b) z env n last t0 t s0 s) here (h env n last st nb m)))
    where
      by_step : (e' : Names Component) (k' last' : ℕ) → n ≤ k' → k' ≤ last' → Kept n t0 t → s ≡ s0 → Body_numbered last' after last → Leads (body_means true budget (body_of b) env) (body_means true budget (Let first.0 first.1 after) e') → Stepped (step_means budget first e') k' last' t t1 s s1 (Ok tt) → Going budget (body_of b) after env n last t0 t1 s0 s1
      by_step e' k' last' p p' q w nb' g (stepped e f z v x y) =
          going e last' (omega arith) z nb' (kept_trans n t0 t t1 q (kept_less n k' t t1 p v)) (x ∙ w)
          (leads_trans (body_means true budget (body_of b) env) (body_means true budget (Let first.0 first.1 after) e') (body_means true budget after e) g (leads_then (step_means budget first e') (body_means true budget after) e f y))
      by_step e' k' last' p p' q w nb' g (step_gone f y) = let z = g Wrong f (sticks y) in went_wrong z.0 z.1

      by_going : Going budget (body_of b) (Let first.0 first.1 after) env n last t0 t s0 s → Going budget (body_of b) after env n last t0 t1 s0 s1
      by_going (going e' k' p st' (mid, na, last', u, nb') q w g) =
          by_step e' k' last' p (let z = act_rises first.1 k' mid na in let y = upward_rises mid first.0 last' u in omega arith) q w nb' g (k e' k' mid last' st' na u (let z = body_rises after last' last nb' in omega (arith, q.long)))
      by_going (went_wrong f y) = went_wrong f y

drop_past : {A : Type 0} (xs : List A) (n : ℕ) → length xs ≤ n → drop n xs ≡ []
drop_past [] zero l = refl
drop_past [] (suc n) l = refl
drop_past (x ∷ xs) zero l = absurd (omega arith)
drop_past (x ∷ xs) (suc n) l = drop_past xs n (omega arith)

pub block_end : (budget : ℕ) (b : Block) (i : ℕ) (t0 t s0 s s1 : List Component) (r : Answer) → length (out-Block b).steps.now ≤ i → Block_goes budget b i t0 t s0 s → Reads_all t (out-Block b).results.now s s1 r → Body_runs budget (body_of b) t0 t s0 s1 r
unfolding Block_goes Body_runs Reads_all lets body_means
block_end budget b i t0 t s0 s s1 r l h k env n last st nb m =
    by_going (subst (λ z. Going budget (body_of b) (lets (map binding_of z) (out-Block b).results.now) env n last t0 t s0 s) (drop_past (out-Block b).steps.now i l) (h env n last st nb m))
  where
    by_going : Going budget (body_of b) (Give (out-Block b).results.now) env n last t0 t s0 s → Runs (body_means true budget (body_of b) env) n t0 t s0 s1 r
    by_going (going e k' p st' nb' q w g) =
        let z : Runs (body_means true budget (Give (out-Block b).results.now) e) n t t s s1 r = runs_less (body_means true budget (Give (out-Block b).results.now) e) n k' t t s s1 r p (k e k' st') in
        subst (λ y. Runs (body_means true budget (body_of b) env) n t0 t y s1 r) w (runs_in n t0 t s s1 (body_means true budget (body_of b) env) (body_means true budget (Give (out-Block b).results.now) e) r g (runs_after (body_means true budget (Give (out-Block b).results.now) e) n t0 t t s s1 r q z))
    by_going (went_wrong f y) = gone f y

-- what its steps have bound is given up
pub block_over : (budget : ℕ) (b : Block) (i : ℕ) (t0 : List Component) (t given : List Data) (s0 s s1 : List Component) → length (out-Block b).steps.now ≤ i → Block_goes budget b i t0 (held_all t) s0 s → Reads_all (held_all t) (out-Block b).results.now s s1 (Ok tt) → given ≡ t → Body_runs budget (body_of b) t0 (held_all given) s0 s1 (Ok tt)
block_over budget b i t0 t given s0 s s1 l h k e = subst (λ z. Body_runs budget (body_of b) t0 (held_all z) s0 s1 (Ok tt)) (sym e) (block_end budget b i t0 (held_all t) s0 s s1 (Ok tt) l h k)

pub ruleset all_steps = (block_start, block_stop, block_more, block_end, block_over)
