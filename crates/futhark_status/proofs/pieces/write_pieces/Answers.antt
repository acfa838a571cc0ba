use Rattle.futhark_status.specs.Report.{piece_bytes}
use Rattle.futhark_status.proofs.Joined.{joined_map}
use Rattle.futhark_status.proofs.pieces.write_pieces.Goals as goal

pub returns-clause-ok : goal.returns-clause-ok
returns-clause-ok g c = rw (joined_map piece_bytes c.args.pieces.now) c.write_each.ensures.ok

pub returns-clause-failed : goal.returns-clause-failed
returns-clause-failed g c = rw (joined_map piece_bytes c.args.pieces.now) c.write_each.ensures.failed
