use Rattle.std.proofs.Common.{◌≡◌, ◌-◌, drop, length}
use Rattle.fut_primitives.specs.Names.{first_named}
use Rattle.fut_primitives.specs.Table.{scalar_name}
use Rattle.fut_primitives.proofs.names.first_scalar.Given as goal

abbrev pub invariant-loop-at : goal.invariant-loop-at
invariant-loop-at l = first_named scalar_name (drop l.at l.scalars) l.word ≡ first_named scalar_name l.scalars l.word

abbrev pub decreases-loop-at : goal.decreases-loop-at
decreases-loop-at l = length l.scalars - l.at
