-- What workers that draw chunks have run, and how the outcomes of all chunks stand in order.
use Rattle.std.specs.Prelude.{◌≡◌, ℕ, suc, ◌+◌, ◌<◌, ◌≤◌, ◌++◌, max, List, [], ◌∷◌, length, map, All, IsPermutation, Option, Some, None, slice_set}
use Rattle.std.specs.List.{range_with_len}
use Rattle.chunk_work.specs.declared.outcome.Done.{Done}

-- one outcome of each chunk from number k on, in order
abbrev pub InOrder : {O : Type 0} → (ℕ → O → Type 0) → ℕ → List O → Type 0
InOrder ran k [] = Unit {0}
InOrder ran k (o ∷ os) = ran k o × InOrder ran (k + 1) os

-- one outcome of each chunk, in order
abbrev pub AllRan : {O : Type 0} → (ℕ → O → Type 0) → ℕ → List O → Type 0
AllRan ran chunks outcomes = (length outcomes ≡ chunks) × InOrder ran 0 outcomes

-- ---- workers

abbrev pub chunk_of : {O : Type 0} → Done O → ℕ
chunk_of d = d.chunk

-- each is of one of the chunks, and is an outcome of it
abbrev pub EachRan : {O : Type 0} → (ℕ → O → Type 0) → ℕ → List (Done O) → Type 0
EachRan ran chunks dones = All (λ d. (d.chunk < chunks) × ran d.chunk d.outcome) dones

-- the numbers drawn are those of the chunks that were run, and some past the end
abbrev pub Accounts : {O : Type 0} → ℕ → List (Done O) → List ℕ → Type 0
Accounts chunks dones numbers = (more : List ℕ) × All (λ n. chunks ≤ n) more × IsPermutation (map chunk_of dones ++ more) numbers

-- each chunk was drawn by someone whose numbers are accounted for
abbrev pub AllDone : {O : Type 0} → ℕ → List (Done O) → Type 0
AllDone chunks dones = (numbers : List ℕ) × (rest : List ℕ) × Accounts chunks dones numbers × IsPermutation (range_with_len 0 chunks ++ rest) numbers

-- one more than the greatest number, or 0
abbrev pub top : List ℕ → ℕ
top [] = 0
top (x ∷ xs) = max (suc x) (top xs)

-- the outcome of a chunk, at its number
abbrev pub placed : {O : Type 0} → List (Option O) → Done O → List (Option O)
placed places d = slice_set places d.chunk (Some d.outcome)

abbrev pub outcome_at : {O : Type 0} → Option O → List O
outcome_at None = []
outcome_at (Some o) = o ∷ []
