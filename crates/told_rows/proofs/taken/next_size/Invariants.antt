use Rattle.std.proofs.Common.{◌≡◌, ◌≤◌}
use Rattle.fut_meaning.specs.Found.{Sizing}
use Rattle.size_arena.specs.Trees.{free_of}
use Rattle.unfold.specs.declared.known.Entered.{size-Entered}
use Rattle.unfold.specs.Held.{entered_of}
use Rattle.unfold.specs.Telling.{passed}
use Rattle.told_rows.specs.Tables.{Tells}
use Rattle.told_rows.specs.Taken.{entered_weight}
use Rattle.told_rows.proofs.taken.next_size.Given as goal

abbrev pub invariant-loop-current : goal.invariant-loop-current
invariant-loop-current l = record {
  same : (Z : Sizing) → Tells l.sizes Z → passed Z (entered_of l.entered) (free_of l.size) ≡ passed Z (entered_of l.current) (free_of l.size);
  lighter : entered_weight (entered_of l.current) ≤ entered_weight (entered_of l.entered);
}

abbrev pub decreases-loop-current : goal.decreases-loop-current
decreases-loop-current l = size-Entered l.current
