use Rattle.std.proofs.Common.{◌≡◌, ◌++◌, drop}
use Rattle.size_functions.specs.Arrows.{arrows_for, arrows_of}
use Rattle.size_functions.specs.Takings.{takings_of}
use Rattle.size_functions.proofs.choosing.arrows_for.Given as goal

abbrev pub invariant-loop-parameter : goal.invariant-loop-parameter
invariant-loop-parameter l = arrows_for l.names (takings_of l.parameters) ≡ arrows_of l.made.items ++ arrows_for l.rest (takings_of (drop l.parameter-index l.parameters))
