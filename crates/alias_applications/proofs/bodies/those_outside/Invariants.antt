use Rattle.std.proofs.Common.{◌≡◌, ◌++◌, drop}
use Rattle.fut_aliases.specs.Aliases.{those}
use Rattle.alias_applications.specs.Results.{from_outside}
use Rattle.alias_applications.proofs.bodies.those_outside.Given as goal

abbrev pub invariant-loop-i : goal.invariant-loop-i
invariant-loop-i l = those (from_outside l.here.function_from l.here.fixed.now) l.set ≡ l.made.items ++ those (from_outside l.here.function_from l.here.fixed.now) (drop l.i l.set)
