-- How answers follow from those of parts.
use Rattle.std.proofs.Common.{◌≡◌, ℕ, zero, suc, ◌+◌, ◌<◌, ◌≤◌, List, [], ◌∷◌, ◌++◌, slice_get, Some, Result, Ok, Err, refl, sym, ap, ◌∙◌, subst, arith}
use Rattle.fut_scalar.specs.declared.report.Report.{Report}
use Rattle.fut_meaning.specs.Outcomes.{Out, Val, Fail, Wrong, and_then, Rel, Exactly, exact, the, Then, goes_on, stops, sticks}
use Rattle.core_arrays.specs.Arenas.{Array}
use Rattle.core_ir.specs.Bundles.{Component, Row}
use Rattle.core_ir.specs.Meaning.{Env, Results}
use Rattle.core_ir.specs.Typed.{Sort, Sorts}
use Rattle.core_code.specs.Registers.{State, ShowsArray, Shows, Shows_at, AllShow, none_shown, shown_and, Named, Stands, Kept}
use Rattle.core_code.specs.Answers.{Answer, Runs, ran, failed, no_memory}
use Rattle.core_code.specs.declared.stop.Stop.TheVariants.{Failed}

pub the_is : {A : Type 0} (o p : Out A) → o ≡ p → the o p 0
the_is o p e = subst (λ z. Exactly 0 o z 0) e exact

-- whatever m' has, m has, with so many more words
abbrev pub Leads : {A : Type 0} → ℕ → Rel A → Rel A → Type 0
Leads {A} c m m' = (o : Out A) (f : ℕ) → m' o f → (g : ℕ) × m o g × (c + f ≤ g)

pub leads_same : {A : Type 0} (m : Rel A) → Leads 0 m m
leads_same m o f x = (f, x, omega arith)

pub leads_trans : {A : Type 0} (c d : ℕ) (m m' m'' : Rel A) → Leads c m m' → Leads d m' m'' → Leads (c + d) m m''
leads_trans c d m m' m'' h k o f x = let y = k o f x in let z = h o y.0 y.1 in (z.0, z.1, omega (arith, y.2, z.2))

pub leads_then : {A B : Type 0} (m : Rel A) (k : A → Rel B) (a : A) (f : ℕ) → m (Val a) f → Leads f (Then m k) (k a)
leads_then m k a f h o g x = (f + g, goes_on h x, omega arith)

pub leads_first : {A B : Type 0} (c : ℕ) (m m' : Rel A) (k : A → Rel B) → Leads c m m' → Leads c (Then m k) (Then m' k)
leads_first c m m' k h _ _ (goes_on {a} {o} {f} {g} x y) = let z = h (Val a) f x in (z.0 + g, goes_on z.1 y, omega (arith, z.2))
leads_first c m m' k h _ _ (stops {r} {f} x) = let z = h (Fail r) f x in (z.0, stops z.1, z.2)
leads_first c m m' k h _ _ (sticks {f} x) = let z = h Wrong f x in (z.0, sticks z.1, z.2)

-- the value that an outcome has leads on
pub leads_val : {A B : Type 0} (o : Out A) (k : A → Rel B) (a : A) → o ≡ Val a → Leads 0 (Then (the o) k) (k a)
leads_val o k a e = leads_then (the o) k a 0 (the_is o (Val a) e)

-- ---- what is kept

pub kept_same : (n : ℕ) (S : State) → Kept n S S 0
kept_same n S = record { words = λ x h. refl; arrays = λ i a e. e; handed = omega arith }

pub kept_less : (n m : ℕ) (S S' : State) (c : ℕ) → n ≤ m → Kept m S S' c → Kept n S S' c
kept_less n m S S' c h k = record { words = λ x l. k.words x (omega arith); arrays = k.arrays; handed = k.handed }

pub kept_trans : (n : ℕ) (S S1 S2 : State) (c d : ℕ) → Kept n S S1 c → Kept n S1 S2 d → Kept n S S2 (c + d)
kept_trans n S S1 S2 c d h k = record { words = λ x l. k.words x l ∙ h.words x l; arrays = λ i a e. k.arrays i a (h.arrays i a e); handed = omega (arith, h.handed, k.handed) }

abbrev pub Grows : List Array → List Array → Type 0
Grows rs rs' = (i : ℕ) (a : Array) → slice_get rs i ≡ Some a → slice_get rs' i ≡ Some a

pub shows_on : (rs rs' : List Array) (s : Sort) (c : Component) (w : ℕ) → Grows rs rs' → Shows rs s c w → Shows rs' s c w
shows_on rs rs' s c w g = by_rank s.1
  where
    by_rank : (r : ℕ) → Shows_at rs s.0 r c w → Shows_at rs' s.0 r c w
    by_rank zero h = h
    by_rank (suc r) h = record { array = h.array; there = g w h.array h.there; is = h.is; deep = h.deep; full = h.full }

pub all_show_on : (rs rs' : List Array) (ss : List Sort) (cs : Row) (ws : List ℕ) → Grows rs rs' → AllShow rs ss cs ws → AllShow rs' ss cs ws
all_show_on rs rs' _ _ _ g none_shown = none_shown
all_show_on rs rs' _ _ _ g (shown_and {s} {ss} {c} {cs} {w} {ws} h k) = shown_and (shows_on rs rs' s c w g h) (all_show_on rs rs' ss cs ws g k)

pub stands_on : (G : Sorts) (env : Env) (n m : ℕ) (rs rs' : List Array) (t t' : List ℕ) → n ≤ m → ((x : ℕ) → x < n → slice_get t' x ≡ slice_get t x) → Grows rs rs' → Stands G env n rs t → Stands G env m rs' t'
stands_on G env n m rs rs' t t' l k g h = record {
  each = λ x s e.
      let p : Named env n rs t x s = h.each x s e in
      record { value = p.value; named = p.named; below = omega (arith, p.below); word = p.word; there = k x p.below ∙ p.there; shows = shows_on rs rs' s p.value p.word g p.shows };
}

pub stands_kept : (G : Sorts) (env : Env) (n : ℕ) (S S' : State) (c : ℕ) → Stands G env n S.arena.arrays S.words → Kept n S S' c → Stands G env n S'.arena.arrays S'.words
stands_kept G env n S S' c h k = stands_on G env n n S.arena.arrays S'.arena.arrays S.words S'.words (omega arith) k.words k.arrays h

pub stands_more : (G : Sorts) (env : Env) (n m : ℕ) (rs : List Array) (t : List ℕ) → n ≤ m → Stands G env n rs t → Stands G env m rs t
stands_more G env n m rs t l h = stands_on G env n m rs rs t t l (λ x q. refl) (λ i a e. e) h

-- ---- runs

-- a run after others that kept what stands, and whose meaning leads to this one's
pub runs_on : (m m' : Results) (ss : List Sort) (n k : ℕ) (S0 S S' : State) (c : ℕ) (r : Answer) → n ≤ k → Kept n S0 S c → S.stack ≡ S0.stack → Leads c m m' → Runs m' ss k S S' r → Runs m ss n S0 S' r
runs_on m m' ss n k S0 S S' c _ l h e g (ran cs ws f q a w y) =
    let z = g (Val cs) f y in
    let v = kept_trans n S0 S S' c f h (kept_less n k S S' f l w) in
    ran cs ws z.0 (q ∙ ap (λ s. s ++ ws) e) a (record { words = v.words; arrays = v.arrays; handed = omega (arith, v.handed, z.2) }) z.1
runs_on m m' ss n k S0 S S' c _ l h e g (failed {r} f y) = let z = g (Fail r) f y in failed z.0 z.1
runs_on m m' ss n k S0 S S' c _ l h e g no_memory = no_memory

pub runs_in : (m m' : Results) (ss : List Sort) (n : ℕ) (S S' : State) (r : Answer) → Leads 0 m m' → Runs m' ss n S S' r → Runs m ss n S S' r
runs_in m m' ss n S S' r g h = runs_on m m' ss n n S S S' 0 r (omega arith) (kept_same n S) refl g h

-- a report passes through
pub runs_break : {A : Type 0} (m : Rel A) (k : A → Results) (ss : List Sort) (n : ℕ) (S S' : State) (r : Report) (f : ℕ) → m (Fail r) f → Runs (Then m k) ss n S S' (Err (Failed r))
runs_break m k ss n S S' r f y = failed f (stops y)
