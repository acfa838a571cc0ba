use Rattle.std.proofs.Common.{◌≡◌, drop}
use Rattle.fut_aliases.specs.Stars.{some_adds_star}
use Rattle.alias_values.specs.Trees.{row_of}
use Rattle.alias_values.proofs.comparing.+adds_star.Given as goal

abbrev pub invariant-some_adds_star-loop-i : goal.invariant-some_adds_star-loop-i
invariant-some_adds_star-loop-i l = some_adds_star (row_of l.wanted) (row_of l.found) ≡ some_adds_star (row_of (drop l.i l.wanted)) (row_of (drop l.i l.found))
