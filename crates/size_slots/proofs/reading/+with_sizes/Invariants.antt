use Rattle.std.proofs.Common.{◌≡◌, drop}
use Rattle.sized_types.specs.Sizes.{all_replaced}
use Rattle.size_arena.specs.Trees.{sizes_of}
use Rattle.size_arena.proofs.Parts.{before}
use Rattle.size_slots.proofs.ReadLaws.{Always, by}
use Rattle.size_slots.proofs.reading.+with_sizes.Given as goal

abbrev pub invariant-all_with_sizes-loop-part : goal.invariant-all_with_sizes-loop-part
invariant-all_with_sizes-loop-part l = Always l.table (λ σ j. all_replaced (by σ) j (sizes_of l.parts) ≡ before l.made.items (all_replaced (by σ) j (sizes_of (drop l.part-index l.parts))))
