-- A store: blocks of words by their numbers, and how many blocks and words were ever handed out.
use Rattle.std.specs.Prelude.{◌≡◌, ℕ, zero, suc, ◌+◌, ◌-◌, ◌^◌, min, List, [], ◌∷◌, slice_set}
use Rattle.std.specs.List.{slice_index_or}
use Rattle.block_store.specs.declared.view.BlockId.{BlockId}

pub data Block : Type 0 where
  -- live, with its words
  In : List ℕ → Block
  -- live, but its words, so many, are with a table
  Out : ℕ → Block
  -- not taken yet, or given back
  Free : Block

pub record Blocks : Type 0 where
  pub blocks : List Block
  pub blocks_handed : ℕ
  pub words_handed : ℕ

-- no block, and nothing handed out
abbrev pub no_blocks : Blocks
no_blocks = record { blocks = []; blocks_handed = 0; words_handed = 0 }

-- all numbers behind the last block are free
abbrev pub block_at : List Block → ℕ → Block
block_at blocks b = slice_index_or blocks b Free

abbrev pub words_in : Block → List ℕ
words_in (In words) = words
words_in (Out count) = []
words_in Free = []

-- the words of a block that are in
abbrev pub words_at : Blocks → BlockId → List ℕ
words_at s id = words_in (block_at s.blocks id.0)

-- the block is live and its words are in
abbrev pub IsIn : Blocks → BlockId → Type 0
IsIn s id = block_at s.blocks id.0 ≡ In (words_at s id)

-- the block is live and its words, so many, are out
abbrev pub IsOut : Blocks → BlockId → ℕ → Type 0
IsOut s id count = block_at s.blocks id.0 ≡ Out count

-- no block has this number
abbrev pub IsFree : Blocks → BlockId → Type 0
IsFree s id = block_at s.blocks id.0 ≡ Free

-- one block is another, and all others are as before
abbrev pub placed : List Block → ℕ → Block → List Block
placed [] zero block = block ∷ []
placed [] (suc b) block = Free ∷ placed [] b block
placed (first ∷ rest) zero block = block ∷ rest
placed (first ∷ rest) (suc b) block = first ∷ placed rest b block

abbrev pub with_block : Blocks → BlockId → Block → Blocks
with_block s id block = record s { blocks = placed s.blocks id.0 block }

-- one word of one block is another
abbrev pub with_word : Blocks → BlockId → ℕ → ℕ → Blocks
with_word s id at word = with_block s id (In (slice_set (words_at s id) at word))

-- so many words and blocks more were handed out; a count stands at its last value
abbrev pub handed : Blocks → ℕ → ℕ → Blocks
handed s words blocks = record s { words_handed = min (s.words_handed + words) (2 ^ 64 - 1); blocks_handed = min (s.blocks_handed + blocks) (2 ^ 64 - 1) }
