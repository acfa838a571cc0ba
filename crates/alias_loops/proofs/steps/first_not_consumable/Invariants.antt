use Rattle.std.proofs.Common.{◌≡◌, drop}
use Rattle.fut_aliases.specs.Calls.{first_broken}
use Rattle.fut_aliases.specs.Loops.{eaten_not_consumable}
use Rattle.fut_aliases.specs.Patterns.{Scope}
use Rattle.alias_loops.specs.Carried.{carrieds_of}
use Rattle.uniqueness.specs.Held.{here_of}
use Rattle.alias_loops.proofs.steps.first_not_consumable.Given as goal

abbrev pub invariant-loop-i : goal.invariant-loop-i
invariant-loop-i l = (scope : Scope) → first_broken (eaten_not_consumable (here_of scope l.here)) (carrieds_of l.carried) ≡ first_broken (eaten_not_consumable (here_of scope l.here)) (carrieds_of (drop l.i l.carried))
