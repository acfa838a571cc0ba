-- What follows of the definitions of stores and views.
use Rattle.std.specs.Prelude.{◌≡◌, ◌≢◌, ℕ, List}
use Rattle.block_store.specs.declared.view.BlockId.{BlockId}
use Rattle.block_store.specs.declared.view.View.{View}
use Rattle.block_store.specs.Blocks.{Block, Blocks, block_at, with_block}
use Rattle.block_store.specs.Indices.{IsIndex}
use Rattle.block_store.specs.Views.{IsPlaced, IsWithin, Shows, cells, word_of}

-- a view of a view that lies in its block lies there too, and reads what the other shows
pub record ViewLaw (s : Blocks) (v w : View) (other : List ℕ → List ℕ) : Type 0 where
  pub within : IsWithin s w
  pub word : (at : List ℕ) → IsIndex at w.shape → word_of s w at ≡ word_of s v (other at)

abbrev pub ViewsOfViews : Type 0
ViewsOfViews = (s : Blocks) (v w : View) (other : List ℕ → List ℕ) → IsWithin s v → Shows v w other → ViewLaw s v w other

-- a view that lies in its block has places that are numbers, as rows and slices of it need
abbrev pub ViewsArePlaced : Type 0
ViewsArePlaced = (s : Blocks) (v : View) → IsWithin s v → IsPlaced v

-- another block in the place of one leaves all others, and so what is read there
pub record BlockLaw (s : Blocks) (id : BlockId) (block : Block) : Type 0 where
  pub here : block_at (with_block s id block).blocks id.0 ≡ block
  pub others : (b : ℕ) → b ≢ id.0 → block_at (with_block s id block).blocks b ≡ block_at s.blocks b
  pub read : (v : View) → v.block.0 ≢ id.0 → cells (with_block s id block) v ≡ cells s v

abbrev pub BlocksAreApart : Type 0
BlocksAreApart = (s : Blocks) (id : BlockId) (block : Block) → BlockLaw s id block
