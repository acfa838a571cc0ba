use Rattle.std.proofs.Common.{◌≡◌, ◌+◌, drop}
use Rattle.sized_types.specs.Sizes.{all_levels}
use Rattle.size_arena.specs.Trees.{sizes_of}
use Rattle.size_arena.proofs.levels.+levels.Given as goal

abbrev pub invariant-past_all-loop-part : goal.invariant-past_all-loop-part
invariant-past_all-loop-part l = l.next + all_levels (sizes_of (drop l.part-index l.parts)) ≡ l.first + all_levels (sizes_of l.parts)
