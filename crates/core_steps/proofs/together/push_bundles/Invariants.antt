use Rattle.std.proofs.Common.{map}
use Rattle.core_ir.specs.Plain.{bundle_form}
use Rattle.core_code.specs.Registers.{state}
use Rattle.core_steps.proofs.Besides.{Parts_go}
use Rattle.core_steps.proofs.together.push_bundles.Given as goal

abbrev pub invariant-loop-k : goal.invariant-loop-k
invariant-loop-k l = Parts_go (map bundle_form l.rows) l.i l.k (state l.initial.arrays l.table l.initial.stack.items) (state l.arrays l.table l.stack.items)
