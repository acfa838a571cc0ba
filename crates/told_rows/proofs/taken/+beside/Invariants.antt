use Rattle.std.proofs.Common.{◌≡◌, drop}
use Rattle.fut_meaning.specs.Taken.{all_beside}
use Rattle.size_arena.specs.Trees.{dim_of, sizes_of}
use Rattle.told_rows.proofs.taken.+beside.Given as goal

abbrev pub invariant-all_beside-loop-i : goal.invariant-all_beside-loop-i
invariant-all_beside-loop-i l = all_beside (sizes_of l.parts) (sizes_of l.own) (dim_of l.wanted) ≡ all_beside (sizes_of (drop l.i l.parts)) (sizes_of (drop l.i l.own)) (dim_of l.wanted)
