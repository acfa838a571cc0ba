-- Values of all elements of a list, and of a part of it.
use Rattle.std.proofs.Common.{◌≡◌, ℕ, suc, ◌+◌, ◌++◌, List, [], ◌∷◌, length, refl, sym, ap, ◌∙◌, subst, arith}
use Rattle.fut_scalar.specs.declared.report.Report.{Report}
use Rattle.fut_meaning.specs.Outcomes.{Out, Val, Fail, Wrong, Rel, exact, gives, Then, goes_on, stops, sticks, each_of}

module _ {A B : Type 0} (m : Rel A) (k : A → Rel B) where
  abbrev Through : Out B → ℕ → Type 0
  Through (Val b) n = (a : A) × (f : ℕ) × (g : ℕ) × (n ≡ f + g) × m (Val a) f × k a (Val b) g
  Through (Fail r) n = Unit {0}
  Through Wrong n = Unit {0}

  through_on : (a : A) (o : Out B) (f g : ℕ) → m (Val a) f → k a o g → Through o (f + g)
  through_on a (Val b) f g x y = (a, f, g, refl, x, y)
  through_on a (Fail r) f g x y = tt
  through_on a Wrong f g x y = tt

  pub through : (o : Out B) (n : ℕ) → Then m k o n → Through o n
  through _ _ (goes_on {a} {o} {f} {g} x y) = through_on a o f g x y
  through _ _ (stops {r} {f} x) = tt
  through _ _ (sticks {f} x) = tt

-- (m, then l), then k
pub assoc : {A B C : Type 0} (m : Rel A) (l : A → Rel B) (k : B → Rel C) (a : A) (f : ℕ) → m (Val a) f → (o : Out C) (h : ℕ) → Then (l a) k o h → Then (Then m l) k o (f + h)
assoc m l k a f d _ _ (goes_on {a = b} {o} {f = f'} {g = g'} x y) = let q : f + f' + g' ≡ f + (f' + g') = omega arith in subst (λ n. Then (Then m l) k o n) q (goes_on {f = f + f'} {g = g'} (goes_on {f = f} {g = f'} d x) y)
assoc m l k a f d _ _ (stops {r} {f = f'} x) = stops (goes_on {f = f} {g = f'} d x)
assoc m l k a f d _ _ (sticks {f = f'} x) = sticks (goes_on {f = f} {g = f'} d x)

abbrev value_or : {A : Type 0} → A → Out A → A
value_or d (Val a) = a
value_or d (Fail r) = d
value_or d Wrong = d

-- the only outcome
abbrev Only_one : {A : Type 0} → A → Out A → ℕ → Type 0
Only_one a o f = (o ≡ Val a) × (f ≡ 0)

only : {A : Type 0} (a : A) (o : Out A) (f : ℕ) → gives 0 a o f → Only_one a o f
only a _ _ exact = (refl, refl)

pub only_value : {A : Type 0} (a b : A) (f : ℕ) → gives 0 a (Val b) f → (b ≡ a) × (f ≡ 0)
only_value a b f x = let e = only a (Val b) f x in (ap (value_or a) e.0, e.1)

module _ {A : Type 0} (g : A → Rel A) where
  -- the first and the rest
  pub record Parted (x : A) (xs ys : List A) (n : ℕ) : Type 0 where
    pub y : A
    pub rest : List A
    pub f : ℕ
    pub h : ℕ
    pub values : ys ≡ y ∷ rest
    pub count : n ≡ f + h
    pub here : g x (Val y) f
    pub more : each_of g xs (Val rest) h

  pub parted : (x : A) (xs ys : List A) (n : ℕ) → each_of g (x ∷ xs) (Val ys) n → Parted x xs ys n
  parted x xs ys n d =
      let a = through (g x) (λ y. Then (each_of g xs) (λ zs. gives 0 (y ∷ zs))) (Val ys) n d in
      let b = through (each_of g xs) (λ zs. gives 0 (a.0 ∷ zs)) (Val ys) a.2 a.5 in
      let c = only_value (a.0 ∷ b.0) ys b.2 b.5 in
      let p = a.3 in
      let q = b.3 in
      let z = c.1 in
      record { y = a.0; rest = b.0; f = a.1; h = b.1; values = c.0; count = omega arith; here = a.4; more = b.4 }

  pub together : (x y : A) (xs ys : List A) (f h : ℕ) → g x (Val y) f → each_of g xs (Val ys) h → each_of g (x ∷ xs) (Val (y ∷ ys)) (f + h)
  together x y xs ys f h a b =
      let e : f + (h + 0) ≡ f + h = omega arith in
      subst (λ n. each_of g (x ∷ xs) (Val (y ∷ ys)) n) e (goes_on {f = f} {g = h + 0} a (goes_on {f = h} {g = 0} b exact))

  pub nothing : (ys : List A) (n : ℕ) → each_of g [] (Val ys) n → (ys ≡ []) × (n ≡ 0)
  nothing ys n d = only_value [] ys n d

  pub each_length : (xs ys : List A) (n : ℕ) → each_of g xs (Val ys) n → length ys ≡ length xs
  each_length [] ys n d = ap length (nothing ys n d).0
  each_length (x ∷ xs) ys n d = let p = parted x xs ys n d in ap length p.values ∙ ap suc (each_length xs p.rest p.h p.more)

  pub each_append : (xs zs ys ws : List A) (f h : ℕ) → each_of g xs (Val ys) f → each_of g zs (Val ws) h → each_of g (xs ++ zs) (Val (ys ++ ws)) (f + h)
  each_append [] zs ys ws f h a b =
      let e = nothing ys f a in
      let q : h ≡ f + h = let z = e.1 in omega arith in
      subst (λ l. each_of g zs (Val (l ++ ws)) (f + h)) (sym e.0) (subst (λ n. each_of g zs (Val ws) n) q b)
  each_append (x ∷ xs) zs ys ws f h a b =
      let p = parted x xs ys f a in
      let more = each_append xs zs p.rest ws p.h h p.more b in
      let all = together x p.y (xs ++ zs) (p.rest ++ ws) p.f (p.h + h) p.here more in
      let q : p.f + (p.h + h) ≡ f + h = let z = p.count in omega arith in
      subst (λ l. each_of g (x ∷ xs ++ zs) (Val (l ++ ws)) (f + h)) (sym p.values) (subst (λ n. each_of g (x ∷ xs ++ zs) (Val (p.y ∷ p.rest ++ ws)) n) q all)

  -- the first element that fails gives its report to the whole
  pub each_fails : (before after ys : List A) (x : A) (r : Report) (f h : ℕ) → each_of g before (Val ys) f → g x (Fail r) h → (n : ℕ) × each_of g (before ++ x ∷ after) (Fail r) n
  each_fails [] after ys x r f h a b = (h, stops b)
  each_fails (z ∷ before) after ys x r f h a b =
      let p = parted z before ys f a in
      let more = each_fails before after p.rest x r p.h h p.more b in
      (p.f + more.0, goes_on {f = p.f} {g = more.0} p.here (stops more.1))
