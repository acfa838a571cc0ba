use Rattle.std.proofs.Common.{◌≡◌, drop}
use Rattle.fut_aliases.specs.Stars.{some_consumes}
use Rattle.alias_values.specs.Trees.{row_of}
use Rattle.alias_values.proofs.stars.+consumes.Given as goal

abbrev pub invariant-some_consumes-loop-part : goal.invariant-some_consumes-loop-part
invariant-some_consumes-loop-part l = some_consumes (row_of l.parts) ≡ some_consumes (row_of (drop l.part-index l.parts))
