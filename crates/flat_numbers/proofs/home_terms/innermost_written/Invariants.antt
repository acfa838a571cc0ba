use Rattle.std.proofs.Common.{◌≡◌, false, take}
use Rattle.fut_flat.specs.Erased.{parameters}
use Rattle.fut_typing.specs.Free.{has_types}
use Rattle.flat_numbers.proofs.home_terms.innermost_written.Given as goal

abbrev pub invariant-loop-head : goal.invariant-loop-head
invariant-loop-head l = has_types (parameters (take l.head-index l.heads)) ≡ false
