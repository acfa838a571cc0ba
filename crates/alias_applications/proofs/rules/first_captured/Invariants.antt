use Rattle.std.proofs.Common.{◌≡◌, drop}
use Rattle.fut_aliases.specs.Calls.{first_broken}
use Rattle.alias_applications.specs.Givens.{givens_of}
use Rattle.alias_applications.specs.Rules.{captured_argument}
use Rattle.alias_applications.proofs.rules.first_captured.Given as goal

abbrev pub invariant-loop-i : goal.invariant-loop-i
invariant-loop-i l = first_broken (captured_argument l.here.function_from) (givens_of l.all) ≡ first_broken (captured_argument l.here.function_from) (givens_of (drop l.i l.all))
