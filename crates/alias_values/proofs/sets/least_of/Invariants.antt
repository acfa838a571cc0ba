use Rattle.std.proofs.Common.{◌≡◌, drop}
use Rattle.fut_aliases.specs.Aliases.{least, those}
use Rattle.alias_values.specs.Tests.{test_of}
use Rattle.alias_values.proofs.sets.least_of.Given as goal

abbrev pub invariant-loop-i : goal.invariant-loop-i
invariant-loop-i l = least (those (test_of l.test) l.set) ≡ least (those (test_of l.test) (drop l.i l.set))
