-- The rule of the phases on workers, over what all workers know taken together. The machine and the running tables keep the same one.
use Rattle.std.specs.Prelude.{◌≡◌, ℕ, ◌≤◌, List, ◌++◌, fold, slice_index, slice_set, All, IsPermutation}
use Rattle.std.specs.List.{range_with_len}
use Rattle.phase_model.specs.declared.Pair.{Pair}

-- each number below n stands exactly once among the numbers, and no other number stands there
abbrev pub DrawnOnce : ℕ → List ℕ → Type 0
DrawnOnce n numbers = IsPermutation (range_with_len 0 n) numbers

-- each chunk stands exactly once among the numbers, beside numbers that are no chunk's
abbrev pub EachChunkOnce : ℕ → List ℕ → Type 0
EachChunkOnce chunks numbers = (rest : List ℕ) × All (λ n. chunks ≤ n) rest × IsPermutation (range_with_len 0 chunks ++ rest) numbers

-- a store leaves the word that is stored
abbrev pub stores : ℕ → ℕ → ℕ
stores old new = new

-- the words after one pair was done, where `op` makes the new word of the old one and the pair's
abbrev pub done : (ℕ → ℕ → ℕ) → List ℕ → Pair → List ℕ
done op words p = slice_set words p.place (op (slice_index words p.place) p.word)

-- there is an order of the pairs, each once, and the words are the old ones after the pairs were done in that order
pub record DoneOnce (op : ℕ → ℕ → ℕ) (old words : List ℕ) (pairs : List Pair) : Type 0 where
  pub order : List Pair
  pub each_once : IsPermutation pairs order
  pub words_are : words ≡ fold (done op) old order
