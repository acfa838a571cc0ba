use Rattle.std.proofs.Common.{◌≡◌, ◌≤◌, drop, length, take}
use Rattle.alias_applications.specs.Results.{shared_components}
use Rattle.alias_applications.specs.Rules.{components_of}
use Rattle.alias_applications.proofs.bodies.shared_components.Given as goal

abbrev pub invariant-components : goal.invariant-components
invariant-components l = (l.all ≡ shared_components l.here.function_from l.here.fixed.now (components_of (take l.i l.sides)) (components_of (drop l.i l.sides))) × (l.i ≤ length l.sides)

abbrev pub decreases-components : goal.decreases-components
decreases-components l = l.i
