use Rattle.std.proofs.Common.{◌≡◌, ◌-◌, drop, length}
use Rattle.fut_primitives.specs.Names.{first_named}
use Rattle.fut_primitives.specs.Table.{name}
use Rattle.fut_primitives.proofs.names.first_primitive.Given as goal

abbrev pub invariant-loop-at : goal.invariant-loop-at
invariant-loop-at l = first_named name (drop l.at l.primitives) l.word ≡ first_named name l.primitives l.word

abbrev pub decreases-loop-at : goal.decreases-loop-at
decreases-loop-at l = length l.primitives - l.at
