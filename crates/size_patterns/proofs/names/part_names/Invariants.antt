use Rattle.std.proofs.Common.{◌≡◌, ◌++◌, map, drop}
use Rattle.fut_flat.specs.Erased.{pattern_of, patterns}
use Rattle.fut_sizes.specs.Sizing.{all_part_names}
use Rattle.size_patterns.proofs.names.part_names.Given as goal

abbrev pub invariant-loop-parameter : goal.invariant-loop-parameter
invariant-loop-parameter l = all_part_names (patterns (map pattern_of l.parameters)) ≡ l.made.items ++ all_part_names (patterns (map pattern_of (drop l.parameter-index l.parameters)))
