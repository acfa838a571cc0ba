use Rattle.std.proofs.Common.{◌≡◌, drop}
use Rattle.fut_sizes.specs.Matching.{all_read}
use Rattle.size_arena.specs.Trees.{sizes_of}
use Rattle.size_arena.proofs.Parts.{before}
use Rattle.size_slots.proofs.ReadLaws.{Held_by}
use Rattle.size_slots.proofs.reading.+read.Given as goal

abbrev pub invariant-all_read-loop-part : goal.invariant-all_read-loop-part
invariant-all_read-loop-part l = Held_by l.table (λ σ. all_read σ (sizes_of l.parts) ≡ before l.made.items (all_read σ (sizes_of (drop l.part-index l.parts))))
