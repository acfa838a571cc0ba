use Rattle.std.proofs.Common.{◌≡◌, drop}
use Rattle.fut_sizes.specs.Matching as matching
use Rattle.fut_sizes.specs.Scopes.{all_met}
use Rattle.size_slots.specs.Held.{Holds}
use Rattle.size_patterns.specs.Bound.{unmet_at}
use Rattle.size_patterns.proofs.binding.all_met.Given as goal

abbrev pub invariant-loop-i : goal.invariant-loop-i
invariant-loop-i l = (σ : matching.Found) → Holds l.found σ → all_met (unmet_at l.unmet) 0 l.sizes σ ≡ all_met (unmet_at l.unmet) l.i (drop l.i l.sizes) σ
