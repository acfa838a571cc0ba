use Rattle.std.proofs.Common.{◌≡◌, ◌++◌, drop}
use Rattle.fut_sizes.specs.Sizing.{bind_ids}
use Rattle.size_patterns.proofs.names.put_binds.Given as goal

abbrev pub invariant-loop-size : goal.invariant-loop-size
invariant-loop-size l = l.fn.made.items ++ bind_ids l.sizes ≡ l.made.items ++ bind_ids (drop l.size-index l.sizes)
