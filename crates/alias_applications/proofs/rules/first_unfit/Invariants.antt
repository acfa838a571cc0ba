use Rattle.std.proofs.Common.{◌≡◌, drop}
use Rattle.fut_aliases.specs.Calls.{first_broken}
use Rattle.alias_applications.specs.Givens.{givens_of}
use Rattle.alias_applications.specs.Rules.{unfit}
use Rattle.alias_applications.proofs.rules.first_unfit.Given as goal

abbrev pub invariant-loop-i : goal.invariant-loop-i
invariant-loop-i l = first_broken (unfit l.here.fixed.now l.here.loop_from) (givens_of l.all) ≡ first_broken (unfit l.here.fixed.now l.here.loop_from) (givens_of (drop l.i l.all))
