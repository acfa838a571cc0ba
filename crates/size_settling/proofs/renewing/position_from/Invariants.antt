use Rattle.std.proofs.Common.{◌≡◌, drop}
use Rattle.fut_sizes.specs.Functions.{position_from}
use Rattle.size_arena.specs.Trees.{free_of}
use Rattle.size_making.specs.Placing.{frees_of}
use Rattle.size_settling.proofs.renewing.position_from.Given as goal

abbrev pub invariant-loop-one : goal.invariant-loop-one
invariant-loop-one l = position_from l.first (frees_of l.frees) (free_of l.free) ≡ position_from l.number (frees_of (drop l.one-index l.frees)) (free_of l.free)
