use Rattle.std.proofs.Common.{◌≡◌, drop}
use Rattle.fut_aliases.specs.Loops.{some_lost}
use Rattle.alias_loops.proofs.carried.some_lost.Given as goal

abbrev pub invariant-loop-i : goal.invariant-loop-i
invariant-loop-i l = some_lost l.losses l.set ≡ some_lost l.losses (drop l.i l.set)
