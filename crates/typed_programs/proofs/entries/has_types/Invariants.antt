use Rattle.std.proofs.Common.{◌≡◌, length}
use Rattle.fut_flat.specs.Erased.{parameters}
use Rattle.fut_typing.specs.Free.{has_types}
use Rattle.typed_programs.proofs.entries.has_types.Given as goal

abbrev pub invariant-loop-left : goal.invariant-loop-left
invariant-loop-left l = has_types (parameters l.left) ≡ has_types (parameters l.heads)

abbrev pub decreases-loop-left : goal.decreases-loop-left
decreases-loop-left l = length l.left
