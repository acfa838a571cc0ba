use Rattle.std.proofs.Common.{ℕ, List, ◌<◌, ◌^◌, pos, drop}
use Rattle.block_store.specs.Indices.{EachBelow, IsIndex, place_from}
use Rattle.block_store.proofs.Placing.{Left}
use Rattle.block_store.proofs.places.place_of.Given as goal

abbrev pub invariant-loop-k : goal.invariant-loop-k
invariant-loop-k l = (n : ℕ) (ns : List ℕ) → n < 2 ^ 64 → EachBelow n (pos l.offset) l.strides ns → IsIndex l.at ns → Left n l.place (drop l.k l.strides) (drop l.k l.at) (place_from (pos l.offset) l.strides l.at)
