use Rattle.std.proofs.Common.{◌≡◌, drop}
use Rattle.fut_sizes.specs.Matching.{all_filled}
use Rattle.size_arena.specs.Trees.{variable_of, size_of, sizes_of}
use Rattle.size_arena.proofs.Parts.{before}
use Rattle.size_slots.proofs.taking.+filled.Given as goal

abbrev pub invariant-all_filled-loop-part : goal.invariant-all_filled-loop-part
invariant-all_filled-loop-part l = all_filled l.node (variable_of l.variable) (size_of l.size) (sizes_of l.parts) ≡ before l.made.items (all_filled l.node (variable_of l.variable) (size_of l.size) (sizes_of (drop l.part-index l.parts)))
