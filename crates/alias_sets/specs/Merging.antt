-- Rising lists that are read side by side, from the front on.
use Rattle.std.specs.Prelude.{ℕ, ◌<◌, cond, nat_eq, List, [], ◌∷◌}

-- the members of the second are found in the first, one after the other
pub data Within : List ℕ → List ℕ → Type 0 where
  nothing_left : {s : List ℕ} → Within s []
  passed : {x : ℕ} {s t : List ℕ} → Within s t → Within (x ∷ s) t
  met : {x : ℕ} {s t : List ℕ} → Within s t → Within (x ∷ s) (x ∷ t)

-- both in one list: the lesser first, and what both have once
pub data Merged : List ℕ → List ℕ → List ℕ → Type 0 where
  left_ends : {t : List ℕ} → Merged [] t t
  right_ends : {s : List ℕ} → Merged s [] s
  left_first : {x y : ℕ} {s t u : List ℕ} → x < y → Merged s (y ∷ t) u → Merged (x ∷ s) (y ∷ t) (x ∷ u)
  right_first : {x y : ℕ} {s t u : List ℕ} → y < x → Merged (x ∷ s) t u → Merged (x ∷ s) (y ∷ t) (y ∷ u)
  once : {x : ℕ} {s t u : List ℕ} → Merged s t u → Merged (x ∷ s) (x ∷ t) (x ∷ u)

-- all members but for one
abbrev pub without : ℕ → List ℕ → List ℕ
without a [] = []
without a (x ∷ s) = cond (nat_eq x a) (without a s) (x ∷ without a s)
