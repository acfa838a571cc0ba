use Rattle.std.proofs.Common.{◌≡◌, ◌++◌}
use Rattle.block_store.specs.Walks.{row_words}
use Rattle.block_store.proofs.places.put_row.Given as goal

abbrev pub invariant-loop-i : goal.invariant-loop-i
invariant-loop-i l = l.into ≡ l.fn.into ++ row_words l.words l.i l.step l.place
