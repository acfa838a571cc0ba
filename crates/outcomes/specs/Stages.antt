-- A function of several stages over a list, one stage after the other over the whole list, and what may come of it: the
-- values of all elements, the least failing element of the least failing stage, or what is made of the values at the end.
-- Strict evaluation of `map` after `map` goes in this order (Futhark Language Reference, "Evaluation order"), whichever
-- worker finds a failure first. A stage is told by its number, and elements may be of any type.
use Rattle.std.specs.Prelude.{◌≡◌, ℕ, zero, suc, ◌+◌, ◌++◌, List, ◌∷◌, length}
use Rattle.fut_scalar.specs.declared.report.Report.{Report}
use Rattle.fut_meaning.specs.Outcomes.{Rel, Val, Fail, gives, Then, each_of}

-- what each stage gives for an element
abbrev pub Stages : Type 0 → Type 1
Stages A = ℕ → A → Rel A

-- so many stages, from stage k on
abbrev pub staged : {A : Type 0} → Stages A → ℕ → ℕ → List A → Rel (List A)
staged g k zero xs = gives 0 xs
staged g k (suc n) xs = Then (each_of (g k) xs) (staged g (suc k) n)

-- element e has this report, and the elements before it have values
pub record Stops_at {A : Type 0} (g : A → Rel A) (xs : List A) (e : ℕ) (r : Report) : Type 0 where
  pub before : List A
  pub x : A
  pub after : List A
  pub parts : xs ≡ before ++ x ∷ after
  pub element : length before ≡ e
  pub values : List A
  pub count : ℕ
  pub come : each_of g before (Val values) count
  pub counted : ℕ
  pub fails : g x (Fail r) counted

-- each element has a value, and P holds of the values
pub record Comes {A : Type 0} (g : A → Rel A) (xs : List A) (P : List A → Type 0) : Type 0 where
  pub values : List A
  pub count : ℕ
  pub come : each_of g xs (Val values) count
  pub goes_on : P values

-- Stage s fails with report r, first at element e, and the stages before it have values throughout. Stages k to k + n - 1
-- are left, and stage n of these is what is made of the values at the end: it fails as F says
abbrev pub Fails_at : {A : Type 0} → Stages A → (List A → Report → Type 0) → ℕ → ℕ → List A → ℕ → ℕ → Report → Type 0
Fails_at g F k zero xs zero e r = F xs r
Fails_at g F k zero xs (suc s) e r = ⊥
Fails_at g F k (suc n) xs zero e r = Stops_at (g k) xs e r
Fails_at g F k (suc n) xs (suc s) e r = Comes (g k) xs (λ ys. Fails_at g F (suc k) n ys s e r)

-- All stages have values throughout, and what is made of these at the end, with its count, is as K says. h counts all of it
abbrev pub Ends_with : {A : Type 0} → Stages A → (List A → ℕ → Type 0) → ℕ → ℕ → List A → ℕ → Type 0
Ends_with g K k zero xs h = K xs h
Ends_with {A} g K k (suc n) xs h = (ys : List A) × (f : ℕ) × (h' : ℕ) × (h ≡ f + h') × each_of (g k) xs (Val ys) f × Ends_with g K (suc k) n ys h'
