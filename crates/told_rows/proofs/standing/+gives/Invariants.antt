use Rattle.std.proofs.Common.{◌≡◌, drop}
use Rattle.sized_types.specs.Standing.{all_chosen}
use Rattle.size_arena.specs.Trees.{sizes_of}
use Rattle.told_rows.proofs.standing.+gives.Given as goal

abbrev pub invariant-all_chosen-loop-part : goal.invariant-all_chosen-loop-part
invariant-all_chosen-loop-part l = all_chosen l.chosen (sizes_of l.parts) ≡ all_chosen l.chosen (sizes_of (drop l.part-index l.parts))
