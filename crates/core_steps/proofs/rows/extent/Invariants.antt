use Rattle.std.proofs.Common.{◌≡◌, ◌*◌, drop}
use Rattle.fut_value.specs.Leaves.{extent}
use Rattle.core_steps.proofs.rows.extent.Given as goal

abbrev pub invariant-loop-size : goal.invariant-loop-size
invariant-loop-size l = l.count * extent (drop l.size-index l.sizes) ≡ extent l.sizes
