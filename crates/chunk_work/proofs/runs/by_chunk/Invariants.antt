use Rattle.std.proofs.Common.{◌≡◌, fold, replicate, None, length}
use Rattle.chunk_work.specs.Runs.{placed}
use Rattle.chunk_work.proofs.runs.by_chunk.Given as goal

abbrev pub invariant-loop-done : goal.invariant-loop-done
invariant-loop-done g l = record {
  long : length l.places.items ≡ l.fn.chunks;
  is : l.places.items ≡ fold placed (replicate l.fn.chunks None) l.yielded;
}
