use Rattle.std.proofs.Common.{◌≡◌, drop}
use Rattle.alias_applications.specs.Rules.{components_of, has_starred}
use Rattle.alias_applications.proofs.sides.has_starred.Given as goal

abbrev pub invariant-loop-i : goal.invariant-loop-i
invariant-loop-i l = has_starred (components_of l.sides) ≡ has_starred (components_of (drop l.i l.sides))
