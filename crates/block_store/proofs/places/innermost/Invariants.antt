use Rattle.std.proofs.Common.{◌≡◌, ℕ, List, drop}
use Rattle.std.specs.List.{flat_map}
use Rattle.block_store.specs.Walks.{read_from}
use Rattle.block_store.proofs.places.innermost.Given as goal

abbrev pub invariant-loop-k : goal.invariant-loop-k
invariant-loop-k l = (words : List ℕ) → flat_map (read_from words (drop l.k l.strides) (drop l.k l.shape)) l.places ≡ read_from words l.strides l.shape l.offset
