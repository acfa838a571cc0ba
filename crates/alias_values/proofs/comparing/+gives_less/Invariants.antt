use Rattle.std.proofs.Common.{◌≡◌, drop}
use Rattle.fut_aliases.specs.Stars.{some_gives_less, some_given_less}
use Rattle.alias_values.specs.Trees.{row_of}
use Rattle.alias_values.proofs.comparing.+gives_less.Given as goal

abbrev pub invariant-some_gives_less-loop-i : goal.invariant-some_gives_less-loop-i
invariant-some_gives_less-loop-i l = some_gives_less (row_of l.wanted) (row_of l.found) ≡ some_gives_less (row_of (drop l.i l.wanted)) (row_of (drop l.i l.found))

abbrev pub invariant-some_given_less-loop-i : goal.invariant-some_given_less-loop-i
invariant-some_given_less-loop-i l = some_given_less (row_of l.wanted) (row_of l.found) ≡ some_given_less (row_of (drop l.i l.wanted)) (row_of (drop l.i l.found))
