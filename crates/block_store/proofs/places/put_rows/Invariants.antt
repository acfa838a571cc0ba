use Rattle.std.proofs.Common.{◌≡◌, ◌++◌}
use Rattle.block_store.specs.Walks.{rows_at}
use Rattle.block_store.proofs.places.put_rows.Given as goal

abbrev pub invariant-loop-i : goal.invariant-loop-i
invariant-loop-i l = l.rows ≡ l.fn.rows ++ rows_at l.i l.step l.place
