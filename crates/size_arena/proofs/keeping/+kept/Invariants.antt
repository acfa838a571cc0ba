use Rattle.std.proofs.Common.{◌≡◌, drop}
use Rattle.fut_sizes.specs.Agreeing.{all_kept}
use Rattle.size_arena.specs.Trees.{sizes_of}
use Rattle.size_arena.proofs.Parts.{before}
use Rattle.size_arena.proofs.keeping.+kept.Given as goal

abbrev pub invariant-all_kept-loop-i : goal.invariant-all_kept-loop-i
invariant-all_kept-loop-i l = all_kept l.node l.first (sizes_of l.ones) (sizes_of l.others) ≡ before l.made.items (all_kept l.node l.number (sizes_of (drop l.i l.ones)) (sizes_of (drop l.i l.others)))
