use Rattle.std.proofs.Common.{◌≡◌, ◌++◌, take}
use Rattle.std.specs.List.{flat_map}
use Rattle.block_store.specs.Walks.{row_words}
use Rattle.block_store.proofs.places.put_all_rows.Given as goal

abbrev pub invariant-loop-place : goal.invariant-loop-place
invariant-loop-place l = l.into ≡ l.fn.into ++ flat_map (row_words l.words l.count l.step) (take l.place-index l.places)
