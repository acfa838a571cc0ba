use Rattle.file_paths.proofs.Joining.{text_grows}
use Rattle.file_paths.proofs.joined.Goals as goal

pub loop-next-preserved : goal.loop-next-preserved
loop-next-preserved c = text_grows c.args.first.now c.args.rest.now c.loop-next.next-index _ _ _ _ c.loop-next.invariant c.loop-next-test.true c.in-Ok-push_str.ensures.bytes c.in-Ok-push_str-2.ensures.bytes
