-- How a store keeps its blocks.
use Rattle.std.specs.Prelude.{ℕ, List, map}
use Rattle.block_store.specs.declared.slots.Slot.{Slot}
use Rattle.block_store.specs.declared.slots.Slot.TheVariants as slot
use Rattle.block_store.specs.Blocks.{Block, In, Out, Free}

abbrev pub block_of : Slot → Block
block_of (slot.In words) = In words
block_of (slot.Out count) = Out count
block_of (slot.Free next) = Free

abbrev pub blocks_of : List Slot → List Block
blocks_of slots = map block_of slots
