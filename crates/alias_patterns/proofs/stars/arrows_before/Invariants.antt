use Rattle.std.proofs.Common.{◌≤◌, length}
use Rattle.alias_values.specs.Trees.{stars_of}
use Rattle.alias_patterns.proofs.StarForms.{Arrows_from}
use Rattle.alias_patterns.proofs.stars.arrows_before.Given as goal

abbrev pub invariant-parameters : goal.invariant-parameters
invariant-parameters l = Arrows_from l.parameters (stars_of l.given) l.i l.made.stars.now × (l.i ≤ length l.parameters)

abbrev pub decreases-parameters : goal.decreases-parameters
decreases-parameters l = l.i
