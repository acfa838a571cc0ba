use Rattle.std.proofs.Common.{◌≡◌}
use Rattle.fut_meaning.specs.Found.{Sizing}
use Rattle.size_arena.specs.Trees.{free_of}
use Rattle.unfold.specs.declared.known.Entered.{size-Entered}
use Rattle.unfold.specs.Held.{entered_of}
use Rattle.unfold.specs.Telling.{told}
use Rattle.told_rows.specs.Tables.{Tells}
use Rattle.told_rows.proofs.taken.is_told.Given as goal

abbrev pub invariant-loop-current : goal.invariant-loop-current
invariant-loop-current l = (Z : Sizing) → Tells l.sizes Z → told Z (entered_of l.entered) (free_of l.size) ≡ told Z (entered_of l.current) (free_of l.size)

abbrev pub decreases-loop-current : goal.decreases-loop-current
decreases-loop-current l = size-Entered l.current
