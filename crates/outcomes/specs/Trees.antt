-- Trees over parts of a list that may be put together into a tree over the whole list and stay tight. A tree is tight where
-- it has at most one neutral leaf more than other leaves. For c chunks that could come to c more, so a tree over a part is
-- slim: it has at most as many neutral leaves as others.
use Rattle.std.specs.Prelude.{◌≡◌, ℕ, ◌+◌, ◌≤◌, ◌++◌, List, [], ◌∷◌, length}
use Rattle.fut_scalar.specs.declared.report.Report.{Report}
use Rattle.fut_meaning.specs.Outcomes.{Out, Rel, Val, Fail, gives, Both, Tree, elements, neutrals, tree_gives}

-- what an operator gives for two values
abbrev pub Operator : Type 0 → Type 1
Operator A = A → A → Rel A

-- the value or the report of a slim tree over these elements
pub record Reduced {A : Type 0} (op : Operator A) (ne : A) (xs : List A) (o : Out A) (f : ℕ) : Type 0 where
  pub tree : Tree A
  pub elements_are : elements tree ≡ xs
  pub slim : neutrals tree ≤ length (elements tree)
  pub value : tree_gives op ne tree o f

-- For each element of the second list the value of a slim tree over the first list and the elements up to it. f counts all
-- trees
abbrev pub Scanned : {A : Type 0} → Operator A → A → List A → List A → List A → ℕ → Type 0
Scanned op ne before [] [] f = f ≡ 0
Scanned op ne before [] (z ∷ zs) f = ⊥
Scanned op ne before (x ∷ xs) [] f = ⊥
Scanned op ne before (x ∷ xs) (z ∷ zs) f = (a : ℕ) × (b : ℕ) × (f ≡ a + b) × Reduced op ne (before ++ x ∷ []) (Val z) a × Scanned op ne (before ++ x ∷ []) xs zs b

-- some slim tree over the elements up to one of them has this report
pub record Scan_fails {A : Type 0} (op : Operator A) (ne : A) (xs : List A) (r : Report) : Type 0 where
  pub front : List A
  pub x : A
  pub after : List A
  pub parts : xs ≡ front ++ x ∷ after
  pub count : ℕ
  pub fails : Reduced op ne (front ++ x ∷ []) (Fail r) count

-- g on each element, in any order
abbrev pub all_of : {A B : Type 0} → (A → Rel B) → List A → Rel (List B)
all_of g [] = gives 0 []
all_of g (x ∷ xs) = Both (g x) (all_of g xs) (λ y ys. gives 0 (y ∷ ys))

-- the first list with each beginning of the second behind it
abbrev pub beginnings : {A : Type 0} → List A → List A → List (List A)
beginnings before [] = []
beginnings before (x ∷ xs) = (before ++ x ∷ []) ∷ beginnings (before ++ x ∷ []) xs

-- each new value is the operator's, of the carry and the old value. h counts these
abbrev pub Carried : {A : Type 0} → Operator A → A → List A → List A → ℕ → Type 0
Carried op c [] [] h = h ≡ 0
Carried op c [] (w ∷ ws) h = ⊥
Carried op c (z ∷ zs) [] h = ⊥
Carried op c (z ∷ zs) (w ∷ ws) h = (a : ℕ) × (b : ℕ) × (h ≡ a + b) × op c z (Val w) a × Carried op c zs ws b

-- the operator has this report for the carry and one of the values
pub record Carry_fails {A : Type 0} (op : Operator A) (c : A) (zs : List A) (r : Report) : Type 0 where
  pub front : List A
  pub z : A
  pub after : List A
  pub parts : zs ≡ front ++ z ∷ after
  pub count : ℕ
  pub fails : op c z (Fail r) count
