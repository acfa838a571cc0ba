use Rattle.std.proofs.Common.{◌≡◌, drop}
use Rattle.fut_aliases.specs.Calls.{first_broken}
use Rattle.fut_aliases.specs.Loops.{given_loss}
use Rattle.alias_loops.specs.Carried.{carrieds_of}
use Rattle.alias_loops.proofs.steps.first_given_loss.Given as goal

abbrev pub invariant-loop-i : goal.invariant-loop-i
invariant-loop-i l = first_broken (given_loss l.losses l.from l.body) (carrieds_of l.carried) ≡ first_broken (given_loss l.losses l.from l.body) (carrieds_of (drop l.i l.carried))
