use Rattle.std.proofs.Common.{◌≤◌, length}
use Rattle.alias_loops.proofs.SharingForms.{First_from}
use Rattle.alias_loops.proofs.sharing.least_shared_first.Given as goal

abbrev pub invariant-components : goal.invariant-components
invariant-components l = record { least : First_from l.over l.carried l.i l.least; within : l.i ≤ length l.carried }

abbrev pub decreases-components : goal.decreases-components
decreases-components l = l.i
