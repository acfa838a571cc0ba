use Rattle.std.proofs.Common.{◌≡◌, ◌+◌, drop}
use Rattle.fut_sizes.specs.Levels.{all_levels_within}
use Rattle.size_arena.specs.Trees.{sizes_of}
use Rattle.size_arena.proofs.levels.+within.Given as goal

abbrev pub invariant-past_all_within-loop-part : goal.invariant-past_all_within-loop-part
invariant-past_all_within-loop-part l = l.next + all_levels_within (sizes_of (drop l.part-index l.parts)) ≡ l.first + all_levels_within (sizes_of l.parts)
