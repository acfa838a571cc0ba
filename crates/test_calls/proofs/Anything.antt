-- A meaning that allows everything, for functions and operators whose words the tests look at.
use Rattle.std.proofs.Common.{◌≡◌, ℕ, zero, suc, ◌+◌, ◌-◌, ◌<◌, ◌≤◌, ◌++◌, List, [], ◌∷◌, length, refl, sym, ap, ◌∙◌, subst, arith, append-nil}
use Rattle.std.proofs.lemmas.List.{length-append}
use Rattle.fut_scalar.specs.declared.report.Report.{Report}
use Rattle.fut_meaning.specs.Outcomes.{Out, Val, Fail, Rel, exact, each_of, Tree, element, neutral, node, elements, neutrals, tree_gives, both}
use Rattle.outcomes.specs.Stages.{Stages, Stops_at, Comes, Fails_at, Ends_with}
use Rattle.outcomes.specs.Trees.{Operator, Reduced, Scanned, Scan_fails, Carried, Carry_fails}
use Rattle.outcomes.proofs.Each.{together}
use Rattle.phase_code.specs.declared.outcome.StageFault.{StageFault}
use Rattle.phase_code.specs.Ranges.{Function, Monoid, Kept, Never, range, Fault_of}
use Rattle.worker_runtime.proofs.Joined.{range_long}

abbrev pub any_stage : Stages ℕ
any_stage k x o f = Unit {0}

abbrev pub any_op : Operator ℕ
any_op a b o f = Unit {0}

abbrev pub numbers : Function ℕ
numbers = record { count = 33554432; row = λ n. n; stages = 2; means = any_stage }

abbrev pub sums : Monoid ℕ
sums = record { op = any_op; neutral = 0 }

-- ---- a function

each_any : (k : ℕ) (xs ys : List ℕ) → length ys ≡ length xs → each_of (any_stage k) xs (Val ys) (length xs)
each_any k [] [] e = exact
each_any k [] (y ∷ ys) e = absurd (omega arith)
each_any k (x ∷ xs) [] e = absurd (omega arith)
each_any k (x ∷ xs) (y ∷ ys) e =
    let q : 1 + length xs ≡ length (x ∷ xs) = omega arith in
    subst (λ n. each_of (any_stage k) (x ∷ xs) (Val (y ∷ ys)) n) q (together (any_stage k) x y xs ys 1 (length xs) tt (each_any k xs ys (omega arith)))

pub any_ends : (xs ys : List ℕ) → length ys ≡ length xs → Ends_with any_stage (Kept ys) 0 2 xs (length xs + length ys)
any_ends xs ys e = (ys, length xs, length ys, refl, each_any 0 xs ys e, (ys, length ys, 0, omega arith, each_any 1 ys ys refl, (refl, refl)))

pub record At (xs : List ℕ) (e : ℕ) : Type 0 where
  pub before : List ℕ
  pub x : ℕ
  pub after : List ℕ
  pub parts : xs ≡ before ++ x ∷ after
  pub long : length before ≡ e

at : (xs : List ℕ) (e : ℕ) → e < length xs → At xs e
at [] e lt = absurd (omega arith)
at (x ∷ xs) zero lt = record { before = []; x = x; after = xs; parts = refl; long = refl }
at (x ∷ xs) (suc e) lt = let p = at xs e (omega arith) in record { before = x ∷ p.before; x = p.x; after = p.after; parts = ap (λ l. x ∷ l) p.parts; long = ap suc p.long }

stops : (k e : ℕ) (xs : List ℕ) (r : Report) → e < length xs → Stops_at (any_stage k) xs e r
stops k e xs r lt = let p = at xs e lt in record { before = p.before; x = p.x; after = p.after; parts = p.parts; element = p.long; values = p.before; count = length p.before; come = each_any k p.before p.before refl; counted = 0; fails = tt }

pub any_fails : (s e : ℕ) (xs : List ℕ) (r : Report) → s < 2 → e < length xs → Fails_at any_stage Never 0 2 xs s e r
any_fails zero e xs r lt in_it = stops 0 e xs r in_it
any_fails (suc zero) e xs r lt in_it = record { values = xs; count = length xs; come = each_any 0 xs xs refl; goes_on = stops 1 e xs r in_it }
any_fails (suc (suc s)) e xs r lt in_it = absurd (omega arith)

pub any_fault : (lo hi : ℕ) (w : StageFault) (s e : ℕ) → (w.stage ≡ s) × (w.element ≡ e) → s < 2 → lo ≤ e → e < hi → Fault_of numbers Never lo hi w
any_fault lo hi w s e p lt low high =
    let l = range_long numbers.row lo hi in
    (e - lo, (λ _. p.1 ∙ omega arith), subst (λ k. Fails_at any_stage Never 0 2 (range numbers.row lo hi) k (e - lo) w.report) (sym p.0) (any_fails s (e - lo) (range numbers.row lo hi) w.report lt (omega arith)))

pub any_range : (lo hi : ℕ) (words : List ℕ) → length words ≡ hi - lo → (h : ℕ) × (hi - lo ≤ h) × Ends_with any_stage (Kept words) 0 2 (range numbers.row lo hi) h
any_range lo hi words e =
    let l = range_long numbers.row lo hi in
    (length (range numbers.row lo hi) + length words, omega arith, any_ends (range numbers.row lo hi) words (e ∙ sym l))

-- ---- an operator

abbrev comb : ℕ → List ℕ → Tree ℕ
comb x [] = element x
comb x (y ∷ ys) = node (element x) (comb y ys)

comb_elements : (x : ℕ) (xs : List ℕ) → elements (comb x xs) ≡ x ∷ xs
comb_elements x [] = refl
comb_elements x (y ∷ ys) = ap (λ l. x ∷ l) (comb_elements y ys)

comb_neutrals : (x : ℕ) (xs : List ℕ) → neutrals (comb x xs) ≡ 0
comb_neutrals x [] = refl
comb_neutrals x (y ∷ ys) = let i = comb_neutrals y ys in omega arith

comb_gives : (ne x : ℕ) (xs : List ℕ) → (v : ℕ) × tree_gives any_op ne (comb x xs) (Val v) 0
comb_gives ne x [] = (x, exact)
comb_gives ne x (y ∷ ys) = let p = comb_gives ne y ys in (x, both {a = x} {b = p.0} {o = Val x} {f = 0} {g = 0} {h = 0} exact p.1 tt)

pub any_reduced : (ne x : ℕ) (xs : List ℕ) (o : Out ℕ) → Reduced any_op ne (x ∷ xs) o 0
any_reduced ne x xs o =
    let p = comb_gives ne x xs in
    let e = comb_elements x xs in
    let n = comb_neutrals x xs in
    let l : length (elements (comb x xs)) ≡ suc (length xs) = ap length e in
    let m = length-append (elements (comb x xs)) [] in
    record {
      tree = node (comb x xs) neutral;
      elements_are = ap (λ l. l ++ []) e ∙ append-nil (x ∷ xs);
      slim = omega arith;
      value = both {a = p.0} {b = ne} {o = o} {f = 0} {g = 0} {h = 0} p.1 exact tt;
    }

pub any_of : (ne : ℕ) (xs : List ℕ) (o : Out ℕ) → 0 < length xs → Reduced any_op ne xs o 0
any_of ne [] o lt = absurd (omega arith)
any_of ne (x ∷ xs) o lt = any_reduced ne x xs o

pub any_scanned : (ne : ℕ) (before xs zs : List ℕ) → length zs ≡ length xs → Scanned any_op ne before xs zs 0
any_scanned ne before [] [] e = refl
any_scanned ne before [] (z ∷ zs) e = absurd (omega arith)
any_scanned ne before (x ∷ xs) [] e = absurd (omega arith)
any_scanned ne before (x ∷ xs) (z ∷ zs) e =
    let l = length-append before (x ∷ []) in
    (0, 0, refl, any_of ne (before ++ x ∷ []) (Val z) (omega arith), any_scanned ne (before ++ x ∷ []) xs zs (omega arith))

pub any_carried : (c : ℕ) (zs ws : List ℕ) → length ws ≡ length zs → Carried any_op c zs ws 0
any_carried c [] [] e = refl
any_carried c [] (w ∷ ws) e = absurd (omega arith)
any_carried c (z ∷ zs) [] e = absurd (omega arith)
any_carried c (z ∷ zs) (w ∷ ws) e = (0, 0, refl, tt, any_carried c zs ws (omega arith))

pub any_scan_fails : (ne : ℕ) (xs : List ℕ) (r : Report) → 0 < length xs → Scan_fails any_op ne xs r
any_scan_fails ne [] r lt = absurd (omega arith)
any_scan_fails ne (x ∷ xs) r lt = record { front = []; x = x; after = xs; parts = refl; count = 0; fails = any_reduced ne x [] (Fail r) }

pub any_carry_fails : (c : ℕ) (zs : List ℕ) (r : Report) → 0 < length zs → Carry_fails any_op c zs r
any_carry_fails c [] r lt = absurd (omega arith)
any_carry_fails c (z ∷ zs) r lt = record { front = []; z = z; after = zs; parts = refl; count = 0; fails = tt }
