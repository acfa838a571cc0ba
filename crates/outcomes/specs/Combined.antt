-- What combining steps leave at a place, as in a histogram with an operator that has an atomic step.
use Rattle.std.specs.Prelude.{ℕ, ◌<◌, List, ◌∷◌, length, slice_index, true, IsPermutation}
use Rattle.phase_model.specs.declared.Pair.{Pair}
use Rattle.phase_model.specs.Kept.{DoneOnce}
use Rattle.phase_model.specs.Laws.{words_at}
use Rattle.fut_meaning.specs.Outcomes.{Val, gives, Bracket}

-- a reduction of the old word and the words combined there, in some order, whatever the operation and whatever the order of
-- the steps was
abbrev pub CombinedIsAReduction : Type 0
CombinedIsAReduction =
    (op : ℕ → ℕ → ℕ) (ne : ℕ) (old words : List ℕ) (pairs : List Pair) → DoneOnce op old words pairs → (i : ℕ) → i < length old
    → (ws : List ℕ) × IsPermutation (words_at i pairs) ws × Bracket true (λ a b. gives 0 (op a b)) ne (slice_index old i ∷ ws) (Val (slice_index words i)) 0
