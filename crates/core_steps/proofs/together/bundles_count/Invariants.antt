use Rattle.std.proofs.Common.{map}
use Rattle.core_ir.specs.Plain.{bundle_form}
use Rattle.core_steps.proofs.Besides.{Counts_go}
use Rattle.core_steps.proofs.together.bundles_count.Given as goal

abbrev pub invariant-loop-k : goal.invariant-loop-k
invariant-loop-k l = Counts_go l.table l.arrays.arrays (map bundle_form l.rows) l.place l.count l.k l.same
