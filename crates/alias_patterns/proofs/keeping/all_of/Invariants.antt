use Rattle.std.proofs.Common.{◌≤◌, length}
use Rattle.alias_patterns.proofs.KeepForms.{Sets_from}
use Rattle.alias_patterns.proofs.keeping.all_of.Given as goal

abbrev pub invariant-sets : goal.invariant-sets
invariant-sets l = Sets_from l.sets l.i l.all × (l.i ≤ length l.sets)

abbrev pub decreases-sets : goal.decreases-sets
decreases-sets l = l.i
