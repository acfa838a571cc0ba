use Rattle.std.proofs.Common.{◌≡◌, drop}
use Rattle.fut_sizes.specs.Functions.{unchosen}
use Rattle.size_functions.specs.Takings.{takings_of}
use Rattle.size_functions.proofs.choosing.unchosen.Given as goal

abbrev pub invariant-loop-parameter : goal.invariant-loop-parameter
invariant-loop-parameter l = unchosen l.names (takings_of l.parameters) ≡ unchosen l.rest (takings_of (drop l.parameter-index l.parameters))
