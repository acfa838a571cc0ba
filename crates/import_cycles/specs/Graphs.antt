-- Which files lead to which, where each file is told by the numbers of the files that it imports.
use Rattle.std.specs.Prelude.{◌≡◌, ℕ, zero, suc, ◌<◌, Bool, true, false, List, [], ◌∷◌, length, get_or, ◌-◌, ◌≤◌, Option, Some, None}
use Rattle.std.specs.Borrow.{Bor}
use Rattle.std.specs.List.{range_with_len}
use Rattle.elab_scopes.specs.Imports.{Source_file}
use Rattle.file_order.specs.Order.{Among, First_cycle, Leads, imports_of}

-- the numbers of the files that each file imports, as they are held
abbrev pub Rows : Type 0
Rows = List (Bor (List ℕ))

unfoldable pub row_at : Rows → ℕ → List ℕ
row_at [] k = []
row_at (r ∷ rs) zero = r.now
row_at (r ∷ rs) (suc k) = row_at rs k

-- they are those of these files
abbrev pub Are_imports : List Source_file → Rows → Type 0
Are_imports fs rs = (k : ℕ) → row_at rs k ≡ imports_of fs k

-- each number is that of a file
abbrev pub Within : Rows → Type 0
Within rs = (k j : ℕ) → Among j (row_at rs k) → j < length rs

-- a file imports another, or one that leads to it
pub data Leads_in (rs : Rows) (to : ℕ) : ℕ → Type 0 where
  at_once : {k : ℕ} → Among to (row_at rs k) → Leads_in rs to k
  later_on : {k j : ℕ} → Among j (row_at rs k) → Leads_in rs to j → Leads_in rs to k

-- a file is marked
abbrev pub Marked : List Bool → ℕ → Type 0
Marked seen k = get_or seen k false ≡ true

-- of so many files, in load order, the prelude before them: the first that leads to itself, or that none does
abbrev pub Cycle_is : List Source_file → ℕ → Option ℕ → Type 0
Cycle_is fs n (Some k) = First_cycle fs k (range_with_len 1 (n - 1))
Cycle_is fs n None = (k : ℕ) → 1 ≤ k → k < n → Leads fs k k → ⊥
