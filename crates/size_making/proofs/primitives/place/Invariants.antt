use Rattle.std.proofs.Common.{◌≡◌, drop}
use Rattle.fut_sizes.specs.Primitives.{place}
use Rattle.size_making.proofs.PrimitiveForms.{behind}
use Rattle.size_making.proofs.primitives.place.Given as goal

abbrev pub invariant-loop-at : goal.invariant-loop-at
invariant-loop-at l = place l.size l.letters ≡ behind l.at (place l.size (drop l.at l.letters))
