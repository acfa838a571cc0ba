-- How answers follow from those of parts.
use Rattle.std.proofs.Common.{◌≡◌, ℕ, ◌+◌, ◌≤◌, List, [], ◌∷◌, ◌++◌, Result, Ok, Err, refl, sym, ap, ◌∙◌, subst, arith}
use Rattle.fut_meaning.specs.Outcomes.{Out, Val, Fail, Wrong, and_then, Rel, Exactly, exact, the, Then, goes_on, stops, sticks}
use Rattle.fut_blocks.specs.Meaning.{Component, Names, Results}
use Rattle.array_data.specs.declared.stop.Stop.{Stop}
use Rattle.fut_eval.specs.Answers.{Answer, Tells, told, report_told, no_memory_told, lost, Fit, Stands, Kept, Runs, ran, failed, no_memory, gone}

pub the_is : {A : Type 0} (o p : Out A) → o ≡ p → the o p 0
the_is o p e = subst (λ z. Exactly 0 o z 0) e exact

pub told_is : {A : Type 0} (o : Out A) (p : Out A) (f : ℕ) → the o p f → o ≡ p
told_is o _ _ exact = refl

pub tells_then : {A B : Type 0} (o : Out A) (k : A → Out B) (a : A) (r : Result B Stop) → Tells o (Ok a) → Tells (k a) r → Tells (and_then o k) r
tells_then o k a r (told e) h = subst (λ z. Tells (and_then z k) r) (sym e) h
tells_then o k a r (lost e) h = lost (ap (λ z. and_then z k) e)

pub tells_stop : {A B : Type 0} (o : Out A) (k : A → Out B) (e : Stop) → Tells o (Err e) → Tells (and_then o k) (Err e)
tells_stop o k _ (report_told q) = report_told (ap (λ z. and_then z k) q)
tells_stop o k _ no_memory_told = no_memory_told
tells_stop o k _ (lost q) = lost (ap (λ z. and_then z k) q)

-- whatever m' has, m has
abbrev pub Leads : {A : Type 0} → Rel A → Rel A → Type 0
Leads {A} m m' = (o : Out A) (f : ℕ) → m' o f → (g : ℕ) × m o g

pub leads_same : {A : Type 0} (m : Rel A) → Leads m m
leads_same m o f x = (f, x)

pub leads_trans : {A : Type 0} (m m' m'' : Rel A) → Leads m m' → Leads m' m'' → Leads m m''
leads_trans m m' m'' h k o f x = let y = k o f x in h o y.0 y.1

pub leads_then : {A B : Type 0} (m : Rel A) (k : A → Rel B) (a : A) (f : ℕ) → m (Val a) f → Leads (Then m k) (k a)
leads_then m k a f h o g x = (f + g, goes_on h x)

pub leads_first : {A B : Type 0} (m m' : Rel A) (k : A → Rel B) → Leads m m' → Leads (Then m k) (Then m' k)
leads_first m m' k h _ _ (goes_on {a} {o} {f} {g} x y) = let z = h (Val a) f x in (z.0 + g, goes_on z.1 y)
leads_first m m' k h _ _ (stops {r} {f} x) = let z = h (Fail r) f x in (z.0, stops z.1)
leads_first m m' k h _ _ (sticks {f} x) = let z = h Wrong f x in (z.0, sticks z.1)

module _ (n : ℕ) (t t' s s' : List Component) where
  pub runs_in : (m m' : Results) (r : Answer) → Leads m m' → Runs m' n t t' s s' r → Runs m n t t' s s' r
  runs_in m m' _ h (ran vs f e q k y) = let z = h (Val vs) f y in ran vs z.0 e q k z.1
  runs_in m m' _ h (failed {r} f y) = let z = h (Fail r) f y in failed z.0 z.1
  runs_in m m' _ h no_memory = no_memory
  runs_in m m' _ h (gone f y) = let z = h Wrong f y in gone z.0 z.1

  pub runs_next : {A : Type 0} (o : Out A) (k : A → Out (List Component)) (a : A) (r : Answer) → Tells o (Ok a) → Runs (the (k a)) n t t' s s' r → Runs (the (and_then o k)) n t t' s s' r
  runs_next o k a r (told e) h = subst (λ z. Runs (the (and_then z k)) n t t' s s' r) (sym e) h
  runs_next o k a r (lost e) h = gone 0 (the_is (and_then o k) Wrong (ap (λ z. and_then z k) e))

  pub runs_stop : {A : Type 0} (o : Out A) (k : A → Out (List Component)) (e : Stop) → Tells o (Err e) → Runs (the (and_then o k)) n t t' s s' (Err e)
  runs_stop o k _ (report_told {r} q) = failed 0 (the_is (and_then o k) (Fail r) (ap (λ z. and_then z k) q))
  runs_stop o k _ no_memory_told = no_memory
  runs_stop o k _ (lost q) = gone 0 (the_is (and_then o k) Wrong (ap (λ z. and_then z k) q))

  pub then_next : {A : Type 0} (o : Out A) (k : A → Results) (a : A) (r : Answer) → Tells o (Ok a) → Runs (k a) n t t' s s' r → Runs (Then (the o) k) n t t' s s' r
  then_next o k a r (told e) h = runs_in (Then (the o) k) (k a) r (leads_then (the o) k a 0 (the_is o (Val a) e)) h
  then_next o k a r (lost e) h = gone 0 (sticks (the_is o Wrong e))

  pub then_stop : {A : Type 0} (o : Out A) (k : A → Results) (e : Stop) → Tells o (Err e) → Runs (Then (the o) k) n t t' s s' (Err e)
  then_stop o k _ (report_told {r} q) = failed 0 (stops (the_is o (Fail r) q))
  then_stop o k _ no_memory_told = no_memory
  then_stop o k _ (lost q) = gone 0 (sticks (the_is o Wrong q))

  -- an answer that is no value passes through
  pub runs_break : (m : Results) (k : List Component → Results) (t2 s2 : List Component) (e : Stop) → Runs m n t t' s s' (Err e) → Runs (Then m k) n t t2 s s2 (Err e)
  runs_break m k t2 s2 _ (failed f y) = failed f (stops y)
  runs_break m k t2 s2 _ no_memory = no_memory
  runs_break m k t2 s2 _ (gone f y) = gone f (sticks y)

-- what is kept
pub kept_same : (n : ℕ) (t : List Component) → Kept n t t
kept_same n t = record { long = refl; each = λ x h. refl }

pub kept_less : (n m : ℕ) (t t' : List Component) → n ≤ m → Kept m t t' → Kept n t t'
kept_less n m t t' h k = record { long = k.long; each = λ x l. k.each x (omega arith) }

pub kept_trans : (n : ℕ) (t t' t'' : List Component) → Kept n t t' → Kept n t' t'' → Kept n t t''
kept_trans n t t' t'' h k = record { long = k.long ∙ h.long; each = λ x l. k.each x l ∙ h.each x l }

pub stands_kept : (env : Names Component) (n : ℕ) (t t' : List Component) → Stands env n t → Kept n t t' → Stands env n t'
stands_kept env n t t' h k = record { each = λ x v e. let p = h.each x v e in (p.0, k.each x p.0 ∙ p.1, p.2) }

pub stands_more : (env : Names Component) (n m : ℕ) (t : List Component) → n ≤ m → Stands env n t → Stands env m t
stands_more env n m t l h = record { each = λ x v e. let p = h.each x v e in (omega arith, p.1, tt) }

pub runs_less : (m : Results) (n k : ℕ) (t t' s s' : List Component) (r : Answer) → n ≤ k → Runs m k t t' s s' r → Runs m n t t' s s' r
runs_less m n k t t' s s' _ l (ran vs f e q y z) = ran vs f e q (kept_less n k t t' l y) z
runs_less m n k t t' s s' _ l (failed f y) = failed f y
runs_less m n k t t' s s' _ l no_memory = no_memory
runs_less m n k t t' s s' _ l (gone f y) = gone f y

-- after a change that keeps what stands
pub runs_after : (m : Results) (n : ℕ) (t0 t t' s s' : List Component) (r : Answer) → Kept n t0 t → Runs m n t t' s s' r → Runs m n t0 t' s s' r
runs_after m n t0 t t' s s' _ k (ran vs f e q y z) = ran vs f e q (kept_trans n t0 t t' k y) z
runs_after m n t0 t t' s s' _ k (failed f y) = failed f y
runs_after m n t0 t t' s s' _ k no_memory = no_memory
runs_after m n t0 t t' s s' _ k (gone f y) = gone f y

pub fit_append : (vs ws : List Component) → Fit vs → Fit ws → Fit (vs ++ ws)
fit_append [] ws h k = k
fit_append (v ∷ vs) ws h k = (h.0, fit_append vs ws h.1 k)

pub fit_any : (vs : List Component) → Fit vs
fit_any [] = tt
fit_any (v ∷ vs) = (tt, fit_any vs)
