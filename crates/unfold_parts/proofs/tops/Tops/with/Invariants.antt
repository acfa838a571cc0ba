use Rattle.std.proofs.Common.{◌+◌, ◌-◌, length}
use Rattle.unfold_parts.specs.Tables.{Tabled, tops_of}
use Rattle.unfold_parts.proofs.tops.Tops.with.Given as goal

abbrev pub invariant-loop-table : goal.invariant-loop-table
invariant-loop-table l = Tabled (tops_of l.fn.self) l.table.items

abbrev pub decreases-loop-table : goal.decreases-loop-table
decreases-loop-table l = l.at + 1 - length l.table.items
