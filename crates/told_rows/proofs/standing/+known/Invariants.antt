use Rattle.std.proofs.Common.{◌≡◌, drop}
use Rattle.sized_types.specs.Standing.{all_known}
use Rattle.size_arena.specs.Trees.{sizes_of}
use Rattle.told_rows.proofs.standing.+known.Given as goal

abbrev pub invariant-all_known-loop-part : goal.invariant-all_known-loop-part
invariant-all_known-loop-part l = all_known (sizes_of l.parts) ≡ all_known (sizes_of (drop l.part-index l.parts))
