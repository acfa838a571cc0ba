use Rattle.std.proofs.Common.{ℕ, List, ◌+◌, ◌*◌, drop, length}
use Rattle.array_data.specs.Held.{held_all}
use Rattle.data_values.specs.Put.{Rows_put}
use Rattle.data_values.proofs.giving.+giving.Given as goal

abbrev pub decreases-put_data : goal.decreases-put_data
decreases-put_data l = 2 * length l.sizes.now

abbrev pub decreases-put_rows : goal.decreases-put_rows
decreases-put_rows l = 2 * length l.sizes.now + 1

abbrev pub invariant-put_rows-loop-row : goal.invariant-put_rows-loop-row
invariant-put_rows-loop-row l = (new : List ℕ) → Rows_put l.elem l.sizes (held_all (drop l.row-index l.rows)) l.words new → Rows_put l.elem l.sizes (held_all l.rows) l.fn.words new
