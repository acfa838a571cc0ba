use Rattle.std.proofs.Common.{◌≡◌, drop}
use Rattle.size_arena.specs.Trees.{sizes_of}
use Rattle.size_arena.proofs.Parts.{before}
use Rattle.size_operations.specs.Records.{chosen}
use Rattle.size_operations.proofs.records.chosen.Given as goal

abbrev pub invariant-loop-i : goal.invariant-loop-i
invariant-loop-i l = chosen (sizes_of l.sizes) l.places ≡ before l.made.items (chosen (sizes_of l.sizes) (drop l.i l.places))
