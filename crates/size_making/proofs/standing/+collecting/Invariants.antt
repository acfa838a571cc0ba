use Rattle.std.proofs.Common.{◌≡◌, drop}
use Rattle.fut_sizes.specs.Functions.{all_collected}
use Rattle.size_arena.specs.Trees.{sizes_of}
use Rattle.size_making.specs.Placing.{frees_of, sought_by}
use Rattle.size_making.proofs.standing.+collecting.Given as goal

abbrev pub invariant-collect_all-loop-part : goal.invariant-collect_all-loop-part
invariant-collect_all-loop-part l = all_collected (sought_by l.sought) (sizes_of l.parts) (frees_of l.fn.frees) ≡ all_collected (sought_by l.sought) (sizes_of (drop l.part-index l.parts)) (frees_of l.frees)
