use Rattle.std.proofs.Common.{◌≡◌, drop}
use Rattle.fut_sizes.specs.Agreeing.{all_agree}
use Rattle.size_arena.specs.Trees.{sizes_of}
use Rattle.size_arena.proofs.agreeing.+agree.Given as goal

abbrev pub invariant-all_agree-loop-i : goal.invariant-all_agree-loop-i
invariant-all_agree-loop-i l = all_agree l.at (sizes_of l.wanted) (sizes_of l.found) ≡ all_agree l.at (sizes_of (drop l.i l.wanted)) (sizes_of (drop l.i l.found))
