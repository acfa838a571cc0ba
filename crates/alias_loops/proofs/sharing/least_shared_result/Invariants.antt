use Rattle.std.proofs.Common.{◌≤◌, length}
use Rattle.alias_loops.proofs.SharingForms.{Result_from}
use Rattle.alias_loops.proofs.sharing.least_shared_result.Given as goal

abbrev pub invariant-components : goal.invariant-components
invariant-components l = record { least : Result_from l.from l.carried l.carried l.given l.i l.least; within : l.i ≤ length l.carried; among : l.i ≤ length l.given }

abbrev pub decreases-components : goal.decreases-components
decreases-components l = l.i
