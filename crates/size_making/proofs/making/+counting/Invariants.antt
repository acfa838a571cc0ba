use Rattle.std.proofs.Common.{◌≡◌, ◌+◌, drop}
use Rattle.fut_sizes.specs.Agreeing.{all_type_levels}
use Rattle.size_arena.specs.Trees.{tys_of}
use Rattle.size_making.proofs.making.+counting.Given as goal

abbrev pub invariant-past_types-loop-part : goal.invariant-past_types-loop-part
invariant-past_types-loop-part l = l.next + all_type_levels (tys_of (drop l.part-index l.parts)) ≡ l.first + all_type_levels (tys_of l.parts)
