-- What workers that draw chunks and put their pairs have done: `ran` tells the outcomes of a chunk, `keeps` what may be kept
-- of one, and `pairs_of` its pairs.
use Rattle.std.specs.Prelude.{◌≡◌, ℕ, ◌<◌, ◌++◌, List, [], ◌∷◌, flat_map, IsPermutation}
use Rattle.chunk_work.specs.Runs.{AllRan}
use Rattle.chunk_work.specs.declared.outcome.Done.{Done}
use Rattle.phase_model.specs.declared.Pair.{Pair}

-- of each outcome that is kept
abbrev pub EachKept : {O K : Type 0} → (O → K → Type 0) → List O → List K → Type 0
EachKept keeps [] [] = Unit {0}
EachKept keeps [] (k ∷ ks) = ⊥
EachKept keeps (o ∷ os) [] = ⊥
EachKept keeps (o ∷ os) (k ∷ ks) = keeps o k × EachKept keeps os ks

-- there is one outcome of each chunk, in order; of these that was kept, and the pairs are theirs, each once
pub record AllPut {O K : Type 0} (ran : ℕ → O → Type 0) (keeps : O → K → Type 0) (pairs_of : O → List Pair) (chunks : ℕ) (kept : List K) (pairs : List Pair) : Type 0 where
  pub outcomes : List O
  pub ran_all : AllRan ran chunks outcomes
  pub kept_are : EachKept keeps outcomes kept
  pub pairs_once : IsPermutation (flat_map pairs_of outcomes) pairs

-- ---- workers

-- an outcome of the chunk, of which that is kept, and its pairs
pub record PutOf {O K : Type 0} (ran : ℕ → O → Type 0) (keeps : O → K → Type 0) (pairs_of : O → List Pair) (c : ℕ) (kept : K) (pairs : List Pair) : Type 0 where
  pub outcome : O
  pub ran_it : ran c outcome
  pub kept_it : keeps outcome kept
  pub pairs_are : pairs ≡ pairs_of outcome

-- each is of one of the chunks, and the pairs are those of their outcomes, one after the other
abbrev pub EachPut : {O K : Type 0} → (ℕ → O → Type 0) → (O → K → Type 0) → (O → List Pair) → ℕ → List (Done K) → List Pair → Type 0
EachPut ran keeps pairs_of chunks [] ps = ps ≡ []
EachPut ran keeps pairs_of chunks (d ∷ ds) ps = (qs : List Pair) × (rs : List Pair) × (ps ≡ qs ++ rs) × (d.chunk < chunks) × PutOf ran keeps pairs_of d.chunk d.outcome qs × EachPut ran keeps pairs_of chunks ds rs
