use Rattle.std.proofs.Common.{◌≡◌, drop}
use Rattle.fut_aliases.specs.Calls.{first_broken}
use Rattle.alias_loops.specs.Rules.{outside_loss}
use Rattle.alias_loops.proofs.steps.given_loss.Given as goal

abbrev pub invariant-loop-i : goal.invariant-loop-i
invariant-loop-i l = first_broken (outside_loss l.losses l.from l.body) l.one.gives.now ≡ first_broken (outside_loss l.losses l.from l.body) (drop l.i l.one.gives.now)
