use Rattle.std.proofs.Common.{◌≡◌, take}
use Rattle.alias_joins.specs.SetRows.{sets_of}
use Rattle.alias_loops.proofs.turns.are_same.Given as goal

abbrev pub invariant-loop-i : goal.invariant-loop-i
invariant-loop-i l = sets_of (take l.i l.one) ≡ sets_of (take l.i l.other)
