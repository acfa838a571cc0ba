use Rattle.std.proofs.Common.{◌≡◌, drop}
use Rattle.fut_sizes.specs.Functions.{stands_among}
use Rattle.size_arena.specs.Trees.{free_of}
use Rattle.size_making.specs.Placing.{frees_of}
use Rattle.size_functions.proofs.choosing.stands_among.Given as goal

abbrev pub invariant-loop-one : goal.invariant-loop-one
invariant-loop-one l = stands_among (frees_of l.frees) (free_of l.free) ≡ stands_among (frees_of (drop l.one-index l.frees)) (free_of l.free)
