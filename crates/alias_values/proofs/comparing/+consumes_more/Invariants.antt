use Rattle.std.proofs.Common.{◌≡◌, drop}
use Rattle.fut_aliases.specs.Stars.{some_consumes_more, some_consumed_more}
use Rattle.alias_values.specs.Trees.{row_of}
use Rattle.alias_values.proofs.comparing.+consumes_more.Given as goal

abbrev pub invariant-some_consumes_more-loop-i : goal.invariant-some_consumes_more-loop-i
invariant-some_consumes_more-loop-i l = some_consumes_more (row_of l.wanted) (row_of l.found) ≡ some_consumes_more (row_of (drop l.i l.wanted)) (row_of (drop l.i l.found))

abbrev pub invariant-some_consumed_more-loop-i : goal.invariant-some_consumed_more-loop-i
invariant-some_consumed_more-loop-i l = some_consumed_more (row_of l.wanted) (row_of l.found) ≡ some_consumed_more (row_of (drop l.i l.wanted)) (row_of (drop l.i l.found))
