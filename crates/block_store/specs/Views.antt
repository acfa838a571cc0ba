-- Views: the cells of an array by where they stand in a block.
use Rattle.std.specs.Prelude.{◌≡◌, ℕ, ◌<◌, ◌^◌, ℤ, pos, unsigned_abs, List, All, length, slice_index}
use Rattle.fut_value.specs.Values.{product}
use Rattle.block_store.specs.declared.view.BlockId.{BlockId}
use Rattle.block_store.specs.declared.view.View.{View}
use Rattle.block_store.specs.Blocks.{Blocks, words_at}
use Rattle.block_store.specs.Indices.{IsIndex, EachBelow, cells_from, place_from}

-- where in its block the cell at an index stands
abbrev pub place : View → List ℕ → ℤ
place v at = place_from (pos v.offset) v.strides at

-- each index has a place, with a stride for each level
pub record IsPlaced (v : View) : Type 0 where
  pub levels : length v.strides ≡ length v.shape
  pub places : EachBelow (2 ^ 63) (pos v.offset) v.strides v.shape

-- the view shows cells of its block alone
pub record IsWithin (s : Blocks) (v : View) : Type 0 where
  pub levels : length v.strides ≡ length v.shape
  pub places : EachBelow (length (words_at s v.block)) (pos v.offset) v.strides v.shape
  pub short : length (words_at s v.block) < 2 ^ 63

-- each size is below 2^63
abbrev pub IsSized : View → Type 0
IsSized v = All (λ n. n < 2 ^ 63) v.shape

-- the word at an index
abbrev pub word_of : Blocks → View → List ℕ → ℕ
word_of s v at = slice_index (words_at s v.block) (unsigned_abs (place v at))

-- the words of all cells, those of the first row first
abbrev pub cells : Blocks → View → List ℕ
cells s v = cells_from (words_at s v.block) (pos v.offset) v.strides v.shape

-- the view shows all words of its block in their order, as an array of these sizes
pub record IsWhole (v : View) (b : BlockId) (sizes : List ℕ) : Type 0 where
  pub block : v.block ≡ b
  pub shape : v.shape ≡ sizes
  pub within : (s : Blocks) → length (words_at s b) ≡ product sizes → product sizes < 2 ^ 63 → IsWithin s v
  pub cells : (s : Blocks) → length (words_at s b) ≡ product sizes → product sizes < 2 ^ 63 → cells s v ≡ words_at s b

-- the cell of a view of a view at each index is that of the other view at another
pub record Shows (v w : View) (other : List ℕ → List ℕ) : Type 0 where
  pub block : w.block ≡ v.block
  pub levels : length w.strides ≡ length w.shape
  pub index : (at : List ℕ) → IsIndex at w.shape → IsIndex (other at) v.shape
  pub place : (at : List ℕ) → IsIndex at w.shape → place w at ≡ place v (other at)
