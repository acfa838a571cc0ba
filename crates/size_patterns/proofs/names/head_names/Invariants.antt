use Rattle.std.proofs.Common.{◌≡◌, ◌++◌, drop}
use Rattle.fut_flat.specs.Erased.{parameters}
use Rattle.fut_sizes.specs.Functions.{size_names}
use Rattle.size_patterns.proofs.names.head_names.Given as goal

abbrev pub invariant-loop-head : goal.invariant-loop-head
invariant-loop-head l = size_names (parameters l.heads) ≡ l.made.items ++ size_names (parameters (drop l.head-index l.heads))
