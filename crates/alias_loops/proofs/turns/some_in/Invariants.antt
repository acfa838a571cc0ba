use Rattle.std.proofs.Common.{◌≡◌, drop}
use Rattle.alias_loops.specs.Turning.{some_in}
use Rattle.alias_loops.proofs.turns.some_in.Given as goal

abbrev pub invariant-loop-i : goal.invariant-loop-i
invariant-loop-i l = some_in l.set l.own ≡ some_in l.set (drop l.i l.own)
