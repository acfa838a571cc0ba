use Rattle.std.proofs.Common.{◌≡◌, ◌++◌, ◌≤◌, map, take, drop, length}
use Rattle.block_store.specs.Helds.{low_bits}
use Rattle.block_store.proofs.held.with_low_bits.Given as goal

abbrev pub invariant-loop-i : goal.invariant-loop-i
invariant-loop-i l = record {
  long : length l.words ≡ length l.initial.words;
  low : l.words ≡ map (low_bits l.elem) (take l.i l.initial.words) ++ drop l.i l.initial.words;
}
