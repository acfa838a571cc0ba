use Rattle.std.proofs.Common.{arith}
use Rattle.block_store.specs.Walks.{row_words}
use Rattle.block_store.proofs.Reading.{one_more_piece, all_pieces}
use Rattle.block_store.proofs.places.put_all_rows.Goals as goal

pub loop-place-preserved : goal.loop-place-preserved
loop-place-preserved c = one_more_piece (row_words c.args.words.now c.args.count c.args.step) c.args.places.now c.loop-place.place-index c.args.into.now c.loop-place.into c.put_row.new.into (omega arith) c.in_ok-put_row.ensures c.loop-place.invariant

pub returns : goal.returns
returns c = all_pieces (row_words c.args.words.now c.args.count c.args.step) c.args.places.now c.loop-place.place-index c.args.into.now c.loop-place.into (omega arith) c.loop-place.invariant
