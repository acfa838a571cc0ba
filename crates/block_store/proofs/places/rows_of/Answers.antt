use Rattle.std.proofs.Common.{arith, []}
use Rattle.block_store.specs.Walks.{rows_at}
use Rattle.block_store.proofs.Reading.{one_more_piece, all_pieces}
use Rattle.block_store.proofs.places.rows_of.Goals as goal

pub loop-place-preserved : goal.loop-place-preserved
loop-place-preserved c = one_more_piece (rows_at c.args.count c.args.step) c.args.places.now c.loop-place.place-index [] c.loop-place.rows c.put_rows.new.rows (omega arith) c.in_ok-put_rows.ensures c.loop-place.invariant

pub returns : goal.returns
returns c = all_pieces (rows_at c.args.count c.args.step) c.args.places.now c.loop-place.place-index [] c.loop-place.rows (omega arith) c.loop-place.invariant
