use Rattle.std.proofs.Common.{◌≡◌, ◌≤◌, drop, length}
use Rattle.block_store.specs.Walks.{strides_of, wrapped_product}
use Rattle.block_store.proofs.view.row_major.Given as goal

abbrev pub invariant-loop-k : goal.invariant-loop-k
invariant-loop-k l = record {
  low : l.k ≤ length l.sizes;
  long : length l.strides.items ≡ length l.sizes;
  words : l.words ≡ wrapped_product (drop l.k l.sizes);
  strides : drop l.k l.strides.items ≡ strides_of (drop l.k l.sizes);
}

abbrev pub decreases-loop-k : goal.decreases-loop-k
decreases-loop-k l = l.k
