use Rattle.std.proofs.Common.{◌≡◌, ◌++◌, drop}
use Rattle.fut_aliases.specs.Aliases.{is_in, those}
use Rattle.alias_applications.specs.Results.{sets_of}
use Rattle.alias_applications.specs.Rules.{components_of}
use Rattle.alias_applications.proofs.bodies.those_shared.Given as goal

abbrev pub invariant-loop-i : goal.invariant-loop-i
invariant-loop-i l = those (λ a. is_in a (sets_of (components_of l.before ++ components_of l.behind))) l.set ≡ l.made.items ++ those (λ a. is_in a (sets_of (components_of l.before ++ components_of l.behind))) (drop l.i l.set)
