-- What is carried from one chunk of a scan into the next.
use Rattle.std.specs.Prelude.{◌≡◌, ℕ, zero, suc, ◌<◌, ◌≤◌, ◌++◌, List, [], ◌∷◌, length}
use Rattle.fut_meaning.specs.Outcomes.{Val}
use Rattle.outcomes.specs.Trees.{Operator}
use Rattle.phase_code.specs.declared.outcome.Made.{Made}

-- the rows of the words with this number
abbrev pub rows_at : {A W : Type 0} → (W → List A) → List (Made W) → ℕ → List A
rows_at rows [] k = []
rows_at rows (m ∷ ms) zero = rows m.words
rows_at rows (m ∷ ms) (suc k) = rows_at rows ms k

-- what was handed out for them
abbrev pub handed_at : {W : Type 0} → List (Made W) → ℕ → ℕ
handed_at [] k = 0
handed_at (m ∷ ms) zero = m.handed
handed_at (m ∷ ms) (suc k) = handed_at ms k

-- What is carried behind chunk k: the last row of the first chunk, and from then on the operator's, of what was carried and
-- the chunk's last row
abbrev pub Link : {A W : Type 0} → (W → List A) → Operator A → List (Made W) → List (Made W) → ℕ → Type 0
Link {A} rows op parts carries zero = (uf : List A) × (c : A) × (rows_at rows carries 0 ≡ c ∷ []) × (rows_at rows parts 0 ≡ uf ++ c ∷ []) × (handed_at carries 0 ≡ 0)
Link {A} rows op parts carries (suc j) =
    (uf : List A) × (c : A) × (z : A) × (w : A) × (rows_at rows carries j ≡ c ∷ []) × (rows_at rows parts (suc j) ≡ uf ++ z ∷ []) × (rows_at rows carries (suc j) ≡ w ∷ [])
    × (h : ℕ) × (handed_at carries (suc j) ≤ h) × op c z (Val w) h

abbrev pub Links : {A W : Type 0} → (W → List A) → Operator A → List (Made W) → List (Made W) → Type 0
Links rows op parts carries = (k : ℕ) → k < length carries → Link rows op parts carries k
