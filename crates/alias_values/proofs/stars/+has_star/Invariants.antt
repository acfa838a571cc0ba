use Rattle.std.proofs.Common.{◌≡◌, drop}
use Rattle.fut_aliases.specs.Stars.{some_has_star}
use Rattle.alias_values.specs.Trees.{row_of}
use Rattle.alias_values.proofs.stars.+has_star.Given as goal

abbrev pub invariant-some_has_star-loop-part : goal.invariant-some_has_star-loop-part
invariant-some_has_star-loop-part l = some_has_star (row_of l.parts) ≡ some_has_star (row_of (drop l.part-index l.parts))
