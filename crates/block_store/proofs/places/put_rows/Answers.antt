use Rattle.block_store.proofs.Reading.{row_more}
use Rattle.block_store.proofs.places.put_rows.Goals as goal

pub loop-i-preserved : goal.loop-i-preserved
loop-i-preserved c = row_more c.args.place c.loop-i.i c.args.step c.moved.result c.args.rows.now c.loop-i.rows c.push.new.self c.moved.ensures c.in_ok-push.ensures.ok c.loop-i.invariant
