use Rattle.std.proofs.Common.{◌≡◌, drop}
use Rattle.fut_aliases.specs.Aliases.{is_in}
use Rattle.alias_values.proofs.sets.is_in.Given as goal

abbrev pub invariant-loop-i : goal.invariant-loop-i
invariant-loop-i l = is_in l.alias l.set ≡ is_in l.alias (drop l.i l.set)
