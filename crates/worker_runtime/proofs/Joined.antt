-- What comes of two ranges, one behind the other.
use Rattle.std.proofs.Common.{◌≡◌, ℕ, zero, suc, ◌+◌, ◌-◌, ◌<◌, ◌≤◌, ◌++◌, List, [], ◌∷◌, length, map, refl, sym, ap, ◌∙◌, subst, arith, Bool, true, false, nat_lt, Result, Ok, Err, IfOk}
use Rattle.std.specs.List.{range_with_len}
use Rattle.std.proofs.lemmas.List.{map-append}
use Rattle.std.proofs.lemmas.List.FromFn.{length-range_with_len}
use Rattle.fut_scalar.specs.declared.report.Report.{Report}
use Rattle.fut_meaning.specs.Outcomes.{exact}
use Rattle.outcomes.specs.Stages.{Stages, Fails_at, Ends_with}
use Rattle.outcomes.proofs.Glue.{Alive, Passes, fault_alive, fault_passes, fault_within, fault_left, fault_right, ends_alive, ends_passes, ends_both, ends_with, ends_last, ends_fail, ends_last_of}
use Rattle.phase_code.specs.declared.outcome.Made.{Made}
use Rattle.phase_code.specs.declared.outcome.StageFault.{StageFault}
use Rattle.phase_code.specs.Ranges.{Function, range, Came_to, Fault_of, Never}

cut : (a n m : ℕ) → range_with_len a (n + m) ≡ range_with_len a n ++ range_with_len (a + n) m
cut a zero m = let k : 0 + m ≡ m = omega arith in let z : a ≡ a + 0 = omega arith in ap (range_with_len a) k ∙ ap (λ b. range_with_len b m) z
cut a (suc n) m =
    let k : suc n + m ≡ suc (n + m) = omega arith in
    let z : a + 1 + n ≡ a + suc n = omega arith in
    ap (range_with_len a) k ∙ ap (λ ys. a ∷ ys) (cut (a + 1) n m) ∙ ap (λ b. a ∷ (range_with_len (a + 1) n ++ range_with_len b m)) z

long_as : {A B : Type 0} (f : A → B) (xs : List A) → length (map f xs) ≡ length xs
long_as f [] = refl
long_as f (x ∷ xs) = ap suc (long_as f xs)

pub when_ok : {A E : Type 0} (r : Result A E) (P Q : A → Type 0) → IfOk r P → ((a : A) → P a → Q a) → IfOk r Q
when_ok (Ok v) P Q e h = h v e
when_ok (Err x) P Q e h = tt

module _ {A : Type 0} (row : ℕ → A) where
  pub range_parts : (lo mid hi : ℕ) → lo ≤ mid → mid ≤ hi → range row lo mid ++ range row mid hi ≡ range row lo hi
  range_parts lo mid hi a b =
      let e : (mid - lo) + (hi - mid) ≡ hi - lo = omega arith in
      let s : lo + (mid - lo) ≡ mid = omega arith in
      ap (λ m. range row lo mid ++ map row (range_with_len m (hi - mid))) (sym s) ∙ sym (map-append row (range_with_len lo (mid - lo)) (range_with_len (lo + (mid - lo)) (hi - mid)))
      ∙ ap (map row) (sym (cut lo (mid - lo) (hi - mid)) ∙ ap (range_with_len lo) e)

  pub range_long : (lo hi : ℕ) → length (range row lo hi) ≡ hi - lo
  range_long lo hi = long_as row (range_with_len lo (hi - lo)) ∙ length-range_with_len lo (hi - lo)

  pub range_none : (lo : ℕ) → range row lo lo ≡ []
  range_none lo = let z : lo - lo ≡ 0 = omega arith in ap (λ n. map row (range_with_len lo n)) z

pub nothing_ends : {A : Type 0} (g : Stages A) (K : List A → ℕ → Type 0) → K [] 0 → (n k : ℕ) → Ends_with g K k n [] 0
nothing_ends g K h zero k = h
nothing_ends g K h (suc n) k = ([], 0, 0, refl, exact, nothing_ends g K h n (suc k))

-- ---- failures

module _ {A : Type 0} (fn : Function A) (F : List A → Report → Type 0) (behind : (xs zs : List A) (r : Report) → F xs r → F (xs ++ zs) r) (before : (xs zs : List A) (r : Report) → F zs r → F (xs ++ zs) r) (lo mid hi : ℕ) (low : lo ≤ mid) (high : mid ≤ hi) where
  first_fails : (a : StageFault) → Fault_of fn F lo mid a → Alive fn.means 0 fn.stages (range fn.row mid hi) a.stage → Fault_of fn F lo hi a
  first_fails a p q = (p.0, p.1, subst (λ l. Fails_at fn.means F 0 fn.stages l a.stage p.0 a.report) (range_parts fn.row lo mid hi low high) (fault_left fn.means F behind 0 fn.stages (range fn.row lo mid) (range fn.row mid hi) a.stage p.0 a.report p.2 q))

  second_fails : (b : StageFault) → Passes fn.means 0 fn.stages (range fn.row lo mid) b.stage → Fault_of fn F mid hi b → Fault_of fn F lo hi b
  second_fails b p q =
      let l = range_long fn.row lo mid in (
        length (range fn.row lo mid) + q.0,
        (λ lt. let e = q.1 lt in omega arith),
        subst (λ l. Fails_at fn.means F 0 fn.stages l b.stage (length (range fn.row lo mid) + q.0) b.report) (range_parts fn.row lo mid hi low high) (fault_right fn.means F before 0 fn.stages (range fn.row lo mid) (range fn.row mid hi) b.stage q.0 b.report p q.2),
      )

  pub both_fail : (a b w : StageFault) → (a.stage ≤ b.stage → w ≡ a) × (b.stage < a.stage → w ≡ b) → Fault_of fn F lo mid a → Fault_of fn F mid hi b → Fault_of fn F lo hi w
  both_fail a b w x p q = go (nat_lt b.stage a.stage) refl
    where
      go : (t : Bool) → nat_lt b.stage a.stage ≡ t → Fault_of fn F lo hi w
      go true e =
          let lt : b.stage < a.stage = grind arith in
          subst (Fault_of fn F lo hi) (sym (x.1 lt)) (second_fails b (fault_passes fn.means F 0 fn.stages (range fn.row lo mid) b.stage a.stage p.0 a.report lt p.2) q)
      go false e =
          let le : a.stage ≤ b.stage = grind arith in
          subst (Fault_of fn F lo hi) (sym (x.0 le)) (first_fails a p (fault_alive fn.means F 0 fn.stages (range fn.row mid hi) a.stage b.stage q.0 b.report le q.2))

  pub fails_then_comes : (L : List A → ℕ → Type 0) (a : StageFault) (h : ℕ) → Fault_of fn F lo mid a → Ends_with fn.means L 0 fn.stages (range fn.row mid hi) h → Fault_of fn F lo hi a
  fails_then_comes L a h p q = first_fails a p (ends_alive fn.means L 0 fn.stages (range fn.row mid hi) a.stage h (fault_within fn.means F 0 fn.stages (range fn.row lo mid) a.stage p.0 a.report p.2) q)

  pub comes_then_fails : (K : List A → ℕ → Type 0) (b : StageFault) (h : ℕ) → Ends_with fn.means K 0 fn.stages (range fn.row lo mid) h → Fault_of fn F mid hi b → Fault_of fn F lo hi b
  comes_then_fails K b h p q = second_fails b (ends_passes fn.means K 0 fn.stages (range fn.row lo mid) b.stage h (fault_within fn.means F 0 fn.stages (range fn.row mid hi) b.stage q.0 b.report q.2) p) q

-- ---- values

module _ {A : Type 0} (fn : Function A) where
  -- all stages have values, whatever is made of these
  abbrev pub Values : ℕ → ℕ → Type 0
  Values lo hi = (h : ℕ) × Ends_with fn.means (λ ys a. Unit {0}) 0 fn.stages (range fn.row lo hi) h

  pub values_none : (lo : ℕ) → Values lo lo
  values_none lo = (0, subst (λ l. Ends_with fn.means (λ ys a. Unit {0}) 0 fn.stages l 0) (sym (range_none fn.row lo)) (nothing_ends fn.means (λ ys a. Unit {0}) tt fn.stages 0))

  pub values_both : (lo mid hi : ℕ) → lo ≤ mid → mid ≤ hi → Values lo mid → Values mid hi → Values lo hi
  values_both lo mid hi low high p q = (
    p.0 + q.0 + 0,
    subst (λ l. Ends_with fn.means (λ ys a. Unit {0}) 0 fn.stages l (p.0 + q.0 + 0)) (range_parts fn.row lo mid hi low high) (ends_both fn.means (λ ys a. Unit {0}) (λ ys a. Unit {0}) (λ ys a. Unit {0}) 0 (λ ys ws a b k l. tt) 0 fn.stages (range fn.row lo mid) (range fn.row mid hi) p.0 q.0 p.1 q.1),
  )

  pub values_of : {W : Type 0} (rows : W → List A) (K : List A → List A → ℕ → Type 0) (lo hi : ℕ) (made : Made W) → Came_to rows fn K lo hi made → Values lo hi
  values_of rows K lo hi made p = (p.0 + 0, ends_with fn.means (K (rows made.words)) (λ ys a. Unit {0}) 0 (λ ys a k. tt) 0 fn.stages (range fn.row lo hi) p.0 p.2)

  -- what is made of two ranges, of which c is counted beside
  pub made_of_both : (K L M : List A → ℕ → Type 0) (lo mid hi c a b : ℕ) → lo ≤ mid → mid ≤ hi → ((ys ws : List A) (i j : ℕ) → K ys i → L ws j → M (ys ++ ws) (i + j + c))
      → Ends_with fn.means K 0 fn.stages (range fn.row lo mid) a → Ends_with fn.means L 0 fn.stages (range fn.row mid hi) b → Ends_with fn.means M 0 fn.stages (range fn.row lo hi) (a + b + c)
  made_of_both K L M lo mid hi c a b low high h p q = subst (λ l. Ends_with fn.means M 0 fn.stages l (a + b + c)) (range_parts fn.row lo mid hi low high) (ends_both fn.means K L M c h 0 fn.stages (range fn.row lo mid) (range fn.row mid hi) a b p q)

  pub came_both : {W : Type 0} (rows : W → List A) (K L M : List A → List A → ℕ → Type 0) (lo mid hi c : ℕ) (m n o : Made W) → lo ≤ mid → mid ≤ hi → o.handed ≤ m.handed + n.handed + c
      → ((ys ws : List A) (i j : ℕ) → K (rows m.words) ys i → L (rows n.words) ws j → M (rows o.words) (ys ++ ws) (i + j + c)) → Came_to rows fn K lo mid m → Came_to rows fn L mid hi n → Came_to rows fn M lo hi o
  came_both rows K L M lo mid hi c m n o low high le h p q =
      let x = p.1 in
      let y = q.1 in
      (p.0 + q.0 + c, omega arith, made_of_both (K (rows m.words)) (L (rows n.words)) (M (rows o.words)) lo mid hi c p.0 q.0 low high h p.2 q.2)

  -- what is made of one range again, of which c is counted beside
  pub came_on : {W : Type 0} (rows : W → List A) (K M : List A → List A → ℕ → Type 0) (lo hi c : ℕ) (m o : Made W) → o.handed ≤ m.handed + c
      → ((ys : List A) (i : ℕ) → K (rows m.words) ys i → M (rows o.words) ys (i + c)) → Came_to rows fn K lo hi m → Came_to rows fn M lo hi o
  came_on rows K M lo hi c m o le h p = let x = p.1 in (p.0 + c, omega arith, ends_with fn.means (K (rows m.words)) (M (rows o.words)) c h 0 fn.stages (range fn.row lo hi) p.0 p.2)

  -- as many values as elements
  pub some_of : {W : Type 0} (rows : W → List A) (K : List A → List A → ℕ → Type 0) (lo hi : ℕ) (m : Made W) → Came_to rows fn K lo hi m → (ys : List A) × (a : ℕ) × (length ys ≡ hi - lo) × K (rows m.words) ys a
  some_of rows K lo hi m p = let q = ends_last_of fn.means (K (rows m.words)) 0 fn.stages (range fn.row lo hi) p.0 p.2 in (q.0, q.1, q.2 ∙ range_long fn.row lo hi, q.3)

  -- what is made of the values at the end fails
  pub end_fails : (K : List A → ℕ → Type 0) (F : List A → Report → Type 0) (lo hi h : ℕ) (w : StageFault) → w.stage ≡ fn.stages → ((ys : List A) (a : ℕ) → K ys a → F ys w.report) → Ends_with fn.means K 0 fn.stages (range fn.row lo hi) h → Fault_of fn F lo hi w
  end_fails K F lo hi h w s f p =
      let z = ends_last fn.means K F w.report 0 f 0 fn.stages (range fn.row lo hi) h p in
      (0, (λ lt. absurd (omega arith)), subst (λ i. Fails_at fn.means F 0 fn.stages (range fn.row lo hi) i 0 w.report) (sym s) z)

  pub ends_fails : (K L : List A → ℕ → Type 0) (F : List A → Report → Type 0) (lo mid hi a b : ℕ) (w : StageFault) → lo ≤ mid → mid ≤ hi → w.stage ≡ fn.stages → ((ys ws : List A) (i j : ℕ) → K ys i → L ws j → F (ys ++ ws) w.report)
      → Ends_with fn.means K 0 fn.stages (range fn.row lo mid) a → Ends_with fn.means L 0 fn.stages (range fn.row mid hi) b → Fault_of fn F lo hi w
  ends_fails K L F lo mid hi a b w low high s f p q =
      let z = ends_fail fn.means K L F w.report 0 f 0 fn.stages (range fn.row lo mid) (range fn.row mid hi) a b p q in
      (0, (λ lt. absurd (omega arith)), subst (λ l. Fails_at fn.means F 0 fn.stages l w.stage 0 w.report) (range_parts fn.row lo mid hi low high) (subst (λ i. Fails_at fn.means F 0 fn.stages (range fn.row lo mid ++ range fn.row mid hi) i 0 w.report) (sym s) z))

-- what never fails at the end may be said to fail in any way
module _ {A : Type 0} (fn : Function A) (F : List A → Report → Type 0) where
  widened : (n k : ℕ) (xs : List A) (s e : ℕ) (r : Report) → Fails_at fn.means Never k n xs s e r → Fails_at fn.means F k n xs s e r
  widened zero k xs zero e r h = absurd h
  widened zero k xs (suc s) e r h = h
  widened (suc n) k xs zero e r h = h
  widened (suc n) k xs (suc s) e r h = record { values = h.values; count = h.count; come = h.come; goes_on = widened n (suc k) h.values s e r h.goes_on }

  pub wider : (lo hi : ℕ) (w : StageFault) → Fault_of fn Never lo hi w → Fault_of fn F lo hi w
  wider lo hi w p = (p.0, p.1, widened fn.stages 0 (range fn.row lo hi) w.stage p.0 w.report p.2)
