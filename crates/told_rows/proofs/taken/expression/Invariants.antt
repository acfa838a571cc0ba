use Rattle.std.proofs.Common.{◌≡◌}
use Rattle.fut_meaning.specs.Found.{Sizing}
use Rattle.size_arena.specs.Trees.{dim_of}
use Rattle.unfold.specs.Held.{entered_of}
use Rattle.unfold.specs.Telling.{expression}
use Rattle.told_rows.specs.Tables.{Tells}
use Rattle.told_rows.specs.Taken.{entered_weight}
use Rattle.told_rows.proofs.taken.expression.Given as goal

abbrev pub invariant-loop-sought : goal.invariant-loop-sought
invariant-loop-sought l = (Z : Sizing) → Tells l.sizes Z → expression Z (entered_of l.fn.entered) (dim_of l.fn.dim) ≡ expression Z (entered_of l.sought.entered.now) (dim_of l.sought.size)

abbrev pub decreases-loop-sought : goal.decreases-loop-sought
decreases-loop-sought l = entered_weight (entered_of l.sought.entered.now)
