use Rattle.std.proofs.Common.{◌≡◌, drop}
use Rattle.fut_aliases.specs.Calls.{first_broken}
use Rattle.alias_applications.specs.Givens.{givens_of}
use Rattle.alias_applications.specs.Rules.{shared}
use Rattle.alias_applications.proofs.rules.first_shared.Given as goal

abbrev pub invariant-loop-i : goal.invariant-loop-i
invariant-loop-i l = first_broken shared (givens_of l.all) ≡ first_broken shared (givens_of (drop l.i l.all))
