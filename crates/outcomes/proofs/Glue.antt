-- Two ranges, one behind the other.
use Rattle.std.proofs.Common.{◌≡◌, ℕ, zero, suc, ◌+◌, ◌≤◌, ◌<◌, ◌++◌, List, ◌∷◌, length, refl, sym, ap, ◌∙◌, subst, arith, append_assoc}
use Rattle.std.proofs.lemmas.List.{length-append}
use Rattle.fut_scalar.specs.declared.report.Report.{Report}
use Rattle.fut_meaning.specs.Outcomes.{Val, Fail, Rel, exact, Then, goes_on, stops, each_of}
use Rattle.outcomes.specs.Stages.{Stages, staged, Comes, Fails_at, Ends_with}
use Rattle.outcomes.proofs.Each.{each_append, each_fails, each_length, assoc}

-- the stages before stage s have values throughout
abbrev pub Alive : {A : Type 0} → Stages A → ℕ → ℕ → List A → ℕ → Type 0
Alive g k n xs zero = Unit {0}
Alive g k zero xs (suc s) = ⊥
Alive g k (suc n) xs (suc s) = Comes (g k) xs (λ ys. Alive g (suc k) n ys s)

-- and stage s too, if it is not what comes last
abbrev pub Passes : {A : Type 0} → Stages A → ℕ → ℕ → List A → ℕ → Type 0
Passes g k zero xs zero = Unit {0}
Passes g k zero xs (suc s) = ⊥
Passes g k (suc n) xs zero = Comes (g k) xs (λ ys. Unit {0})
Passes g k (suc n) xs (suc s) = Comes (g k) xs (λ ys. Passes g (suc k) n ys s)

with_next : {A : Type 0} (g : A → Rel A) (xs : List A) (P Q : List A → Type 0) → ((ys : List A) → P ys → Q ys) → Comes g xs P → Comes g xs Q
with_next g xs P Q h c = record { values = c.values; count = c.count; come = c.come; goes_on = h c.values c.goes_on }

-- both lists have values, and what goes on does so over both
both_come : {A : Type 0} (g : A → Rel A) (xs zs : List A) (P Q R : List A → Type 0) → ((ys ws : List A) → length ys ≡ length xs → P ys → Q ws → R (ys ++ ws)) → Comes g xs P → Comes g zs Q → Comes g (xs ++ zs) R
both_come g xs zs P Q R h c d = record {
  values = c.values ++ d.values;
  count = c.count + d.count;
  come = each_append g xs zs c.values d.values c.count d.count c.come d.come;
  goes_on = h c.values d.values (each_length g xs c.values c.count c.come) c.goes_on d.goes_on;
}

module _ {A : Type 0} (g : Stages A) (F : List A → Report → Type 0) where
  pub fault_alive : (k n : ℕ) (xs : List A) (s t e : ℕ) (r : Report) → s ≤ t → Fails_at g F k n xs t e r → Alive g k n xs s
  fault_alive k n xs zero t e r le h = tt
  fault_alive k zero xs (suc s) zero e r le h = absurd (omega arith)
  fault_alive k zero xs (suc s) (suc t) e r le h = h
  fault_alive k (suc n) xs (suc s) zero e r le h = absurd (omega arith)
  fault_alive k (suc n) xs (suc s) (suc t) e r le h = with_next (g k) xs _ _ (λ ys d. fault_alive (suc k) n ys s t e r (omega arith) d) h

  pub fault_passes : (k n : ℕ) (xs : List A) (s t e : ℕ) (r : Report) → s < t → Fails_at g F k n xs t e r → Passes g k n xs s
  fault_passes k n xs s zero e r lt h = absurd (omega arith)
  fault_passes k zero xs s (suc t) e r lt h = absurd h
  fault_passes k (suc n) xs zero (suc t) e r lt h = with_next (g k) xs _ _ (λ ys d. tt) h
  fault_passes k (suc n) xs (suc s) (suc t) e r lt h = with_next (g k) xs _ _ (λ ys d. fault_passes (suc k) n ys s t e r (omega arith) d) h

  pub fault_within : (k n : ℕ) (xs : List A) (s e : ℕ) (r : Report) → Fails_at g F k n xs s e r → s ≤ n
  fault_within k n xs zero e r h = omega arith
  fault_within k zero xs (suc s) e r h = absurd h
  fault_within k (suc n) xs (suc s) e r h = let w = fault_within (suc k) n h.values s e r h.goes_on in omega arith

  -- the first of the two fails
  pub fault_left : ((xs zs : List A) (r : Report) → F xs r → F (xs ++ zs) r) → (k n : ℕ) (xs zs : List A) (s e : ℕ) (r : Report) → Fails_at g F k n xs s e r → Alive g k n zs s → Fails_at g F k n (xs ++ zs) s e r
  fault_left more k zero xs zs zero e r h a = more xs zs r h
  fault_left more k zero xs zs (suc s) e r h a = h
  fault_left more k (suc n) xs zs zero e r h a = record {
    before = h.before;
    x = h.x;
    after = h.after ++ zs;
    parts = ap (λ l. l ++ zs) h.parts ∙ append_assoc h.before (h.x ∷ h.after) zs;
    element = h.element;
    values = h.values;
    count = h.count;
    come = h.come;
    counted = h.counted;
    fails = h.fails;
  }
  fault_left more k (suc n) xs zs (suc s) e r h a = both_come (g k) xs zs _ _ _ (λ ys ws l p q. fault_left more (suc k) n ys ws s e r p q) h a

  -- the second fails, and the first passes
  pub fault_right : ((xs zs : List A) (r : Report) → F zs r → F (xs ++ zs) r) → (k n : ℕ) (xs zs : List A) (s e : ℕ) (r : Report) → Passes g k n xs s → Fails_at g F k n zs s e r → Fails_at g F k n (xs ++ zs) s (length xs + e) r
  fault_right more k zero xs zs zero e r p h = more xs zs r h
  fault_right more k zero xs zs (suc s) e r p h = h
  fault_right more k (suc n) xs zs zero e r p h = record {
    before = xs ++ h.before;
    x = h.x;
    after = h.after;
    parts = ap (λ l. xs ++ l) h.parts ∙ sym (append_assoc xs h.before (h.x ∷ h.after));
    element = length-append xs h.before ∙ ap (λ i. length xs + i) h.element;
    values = p.values ++ h.values;
    count = p.count + h.count;
    come = each_append (g k) xs h.before p.values h.values p.count h.count p.come h.come;
    counted = h.counted;
    fails = h.fails;
  }
  fault_right more k (suc n) xs zs (suc s) e r p h =
      both_come (g k) xs zs _ _ _ (λ ys ws l a b. subst (λ i. Fails_at g F (suc k) n (ys ++ ws) s (i + e) r) l (fault_right more (suc k) n ys ws s e r a b)) p h

  -- the report is that of the whole
  pub fault_means : {C : Type 0} (K : List A → Rel C) → ((ys : List A) (r : Report) → F ys r → (f : ℕ) × K ys (Fail r) f) → (k n : ℕ) (xs : List A) (s e : ℕ) (r : Report) → Fails_at g F k n xs s e r → (f : ℕ) × Then (staged g k n xs) K (Fail r) f
  fault_means K last k zero xs zero e r h = let q = last xs r h in (0 + q.0, goes_on {f = 0} {g = q.0} exact q.1)
  fault_means K last k zero xs (suc s) e r h = absurd h
  fault_means K last k (suc n) xs zero e r h =
      let q = each_fails (g k) h.before h.after h.values h.x r h.count h.counted h.come h.fails in
      (q.0, stops (stops (subst (λ l. each_of (g k) l (Fail r) q.0) (sym h.parts) q.1)))
  fault_means K last k (suc n) xs (suc s) e r h =
      let q = fault_means K last (suc k) n h.values s e r h.goes_on in
      (h.count + q.0, assoc (each_of (g k) xs) (staged g (suc k) n) K h.values h.count h.come (Fail r) q.0 q.1)

module _ {A : Type 0} (g : Stages A) where
  pub ends_alive : (K : List A → ℕ → Type 0) (k n : ℕ) (xs : List A) (s h : ℕ) → s ≤ n → Ends_with g K k n xs h → Alive g k n xs s
  ends_alive K k n xs zero h le d = tt
  ends_alive K k zero xs (suc s) h le d = absurd (omega arith)
  ends_alive K k (suc n) xs (suc s) h le d = record { values = d.0; count = d.1; come = d.4; goes_on = ends_alive K (suc k) n d.0 s d.2 (omega arith) d.5 }

  pub ends_passes : (K : List A → ℕ → Type 0) (k n : ℕ) (xs : List A) (s h : ℕ) → s ≤ n → Ends_with g K k n xs h → Passes g k n xs s
  ends_passes K k zero xs zero h le d = tt
  ends_passes K k zero xs (suc s) h le d = absurd (omega arith)
  ends_passes K k (suc n) xs zero h le d = record { values = d.0; count = d.1; come = d.4; goes_on = tt }
  ends_passes K k (suc n) xs (suc s) h le d = record { values = d.0; count = d.1; come = d.4; goes_on = ends_passes K (suc k) n d.0 s d.2 (omega arith) d.5 }

  -- both end, and something comes of both: c is what it counts beside
  pub ends_both : (K L M : List A → ℕ → Type 0) (c : ℕ) → ((ys ws : List A) (a b : ℕ) → K ys a → L ws b → M (ys ++ ws) (a + b + c)) → (k n : ℕ) (xs zs : List A) (a b : ℕ)
      → Ends_with g K k n xs a → Ends_with g L k n zs b → Ends_with g M k n (xs ++ zs) (a + b + c)
  ends_both K L M c h k zero xs zs a b p q = h xs zs a b p q
  ends_both K L M c h k (suc n) xs zs a b p q =
      let i = p.3 in
      let j = q.3 in (
        p.0 ++ q.0,
        p.1 + q.1,
        p.2 + q.2 + c,
        omega arith,
        each_append (g k) xs zs p.0 q.0 p.1 q.1 p.4 q.4,
        ends_both K L M c h (suc k) n p.0 q.0 p.2 q.2 p.5 q.5,
      )

  -- both end, and what comes of both fails
  pub ends_fail : (K L : List A → ℕ → Type 0) (F : List A → Report → Type 0) (r : Report) (e : ℕ) → ((ys ws : List A) (a b : ℕ) → K ys a → L ws b → F (ys ++ ws) r) → (k n : ℕ) (xs zs : List A) (a b : ℕ)
      → Ends_with g K k n xs a → Ends_with g L k n zs b → Fails_at g F k n (xs ++ zs) n e r
  ends_fail K L F r e h k zero xs zs a b p q = h xs zs a b p q
  ends_fail K L F r e h k (suc n) xs zs a b p q = record {
    values = p.0 ++ q.0;
    count = p.1 + q.1;
    come = each_append (g k) xs zs p.0 q.0 p.1 q.1 p.4 q.4;
    goes_on = ends_fail K L F r e h (suc k) n p.0 q.0 p.2 q.2 p.5 q.5;
  }

  -- it ends, and something comes of that
  pub ends_with : (K M : List A → ℕ → Type 0) (c : ℕ) → ((ys : List A) (a : ℕ) → K ys a → M ys (a + c)) → (k n : ℕ) (xs : List A) (a : ℕ) → Ends_with g K k n xs a → Ends_with g M k n xs (a + c)
  ends_with K M c h k zero xs a p = h xs a p
  ends_with K M c h k (suc n) xs a p = let i = p.3 in (p.0, p.1, p.2 + c, omega arith, p.4, ends_with K M c h (suc k) n p.0 p.2 p.5)

  pub ends_last : (K : List A → ℕ → Type 0) (F : List A → Report → Type 0) (r : Report) (e : ℕ) → ((ys : List A) (a : ℕ) → K ys a → F ys r) → (k n : ℕ) (xs : List A) (a : ℕ) → Ends_with g K k n xs a → Fails_at g F k n xs n e r
  ends_last K F r e h k zero xs a p = h xs a p
  ends_last K F r e h k (suc n) xs a p = record { values = p.0; count = p.1; come = p.4; goes_on = ends_last K F r e h (suc k) n p.0 p.2 p.5 }

  -- the values of the whole, and at least its count
  pub ends_means : {C : Type 0} (K : List A → ℕ → Type 0) (M : List A → Rel C) (w : C) → ((ys : List A) (a : ℕ) → K ys a → (b : ℕ) × (a ≤ b) × M ys (Val w) b) → (k n : ℕ) (xs : List A) (h : ℕ) → Ends_with g K k n xs h
      → (m : ℕ) × (h ≤ m) × Then (staged g k n xs) M (Val w) m
  ends_means K M w last k zero xs h d = let q = last xs h d in let le = q.1 in (0 + q.0, omega arith, goes_on {f = 0} {g = q.0} exact q.2)
  ends_means K M w last k (suc n) xs h d =
      let i = d.3 in
      let q = ends_means K M w last (suc k) n d.0 d.2 d.5 in
      let le = q.1 in
      (d.1 + q.0, omega arith, assoc (each_of (g k) xs) (staged g (suc k) n) M d.0 d.1 d.4 (Val w) q.0 q.2)

  -- what is made of the values, of which there are as many as elements
  pub ends_last_of : (K : List A → ℕ → Type 0) (k n : ℕ) (xs : List A) (h : ℕ) → Ends_with g K k n xs h → (ys : List A) × (a : ℕ) × (length ys ≡ length xs) × K ys a
  ends_last_of K k zero xs h d = (xs, h, refl, d)
  ends_last_of K k (suc n) xs h d = let q = ends_last_of K (suc k) n d.0 d.2 d.5 in (q.0, q.1, q.2 ∙ each_length (g k) xs d.0 d.1 d.4, q.3)
