use Rattle.std.proofs.Common.{◌≡◌, drop}
use Rattle.sized_types.specs.Sizes.{all_replaced}
use Rattle.size_arena.specs.Trees.{sizes_of}
use Rattle.size_arena.proofs.Parts.{before}
use Rattle.size_patterns.specs.Changes.{change_of}
use Rattle.size_patterns.proofs.changing.+changed.Given as goal

abbrev pub invariant-all_changed-loop-part : goal.invariant-all_changed-loop-part
invariant-all_changed-loop-part l = all_replaced (change_of l.change) l.around (sizes_of l.parts) ≡ before l.made.items (all_replaced (change_of l.change) l.around (sizes_of (drop l.part-index l.parts)))
