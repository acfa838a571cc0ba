use Rattle.block_store.proofs.Reading.{word_more}
use Rattle.block_store.proofs.places.put_row.Goals as goal

pub loop-i-preserved : goal.loop-i-preserved
loop-i-preserved c = word_more c.args.words.now c.args.place c.loop-i.i c.args.step c.word_at.result c.moved.result c.args.into.now c.loop-i.into c.push.new.self c.moved.ensures c.word_at.ensures c.in_ok-push.ensures.ok c.loop-i.invariant
