use Rattle.std.proofs.Common.{◌≡◌, drop}
use Rattle.sized_types.specs.Sizes.{all_replaced, binding}
use Rattle.size_arena.specs.Trees.{sizes_of}
use Rattle.size_arena.proofs.Parts.{before}
use Rattle.size_making.specs.Placing.{position_in}
use Rattle.size_making.proofs.positions.+binding.Given as goal

abbrev pub invariant-all_bound_in-loop-part : goal.invariant-all_bound_in-loop-part
invariant-all_bound_in-loop-part l = all_replaced (binding (position_in l.positions)) l.around (sizes_of l.parts) ≡ before l.made.items (all_replaced (binding (position_in l.positions)) l.around (sizes_of (drop l.part-index l.parts)))
