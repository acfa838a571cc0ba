use Rattle.std.proofs.Common.{◌≡◌, take}
use Rattle.std.specs.List.{flat_map}
use Rattle.block_store.specs.Walks.{rows_at}
use Rattle.block_store.proofs.places.rows_of.Given as goal

abbrev pub invariant-loop-place : goal.invariant-loop-place
invariant-loop-place l = l.rows ≡ flat_map (rows_at l.count l.step) (take l.place-index l.places)
