use Rattle.std.proofs.Common.{◌≡◌, drop}
use Rattle.fut_aliases.specs.Aliases.{is_in}
use Rattle.alias_applications.specs.Results.{sets_of}
use Rattle.alias_applications.specs.Rules.{components_of}
use Rattle.alias_applications.proofs.bodies.is_in_some.Given as goal

abbrev pub invariant-loop-i : goal.invariant-loop-i
invariant-loop-i l = is_in l.alias (sets_of (components_of l.sides)) ≡ is_in l.alias (sets_of (components_of (drop l.i l.sides)))
