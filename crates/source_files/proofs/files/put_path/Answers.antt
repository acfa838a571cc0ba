use Rattle.source_files.proofs.Putting.{put_first}
use Rattle.source_files.proofs.files.put_path.Goals as goal

pub returns : goal.returns
returns c = put_first c.push.result c.args.pending.now c.push.new.self c.in_ok-path.path _ c.in_ok-path.ensures c.push.ensures.ok
