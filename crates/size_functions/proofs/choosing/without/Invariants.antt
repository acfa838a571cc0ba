use Rattle.std.proofs.Common.{◌≡◌, ◌++◌, drop}
use Rattle.fut_sizes.specs.Functions.{without}
use Rattle.size_making.specs.Placing.{frees_of}
use Rattle.size_functions.proofs.choosing.without.Given as goal

abbrev pub invariant-loop-name : goal.invariant-loop-name
invariant-loop-name l = without (frees_of l.chosen) l.names ≡ l.rest ++ without (frees_of l.chosen) (drop l.name-index l.names)
