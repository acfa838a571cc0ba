use Rattle.futhark_status.specs.Report.{piece_bytes}
use Rattle.futhark_status.proofs.LinePieces.{part_at}
use Rattle.futhark_status.proofs.pieces.write_each.Goals as goal

pub returns-in-Err : goal.returns-in-Err
returns-in-Err g c = record {
  ok = tt;
  failed = part_at piece_bytes c.args.pieces.now _ _ _ _ _ c.loop-piece-test.true c.loop-piece.invariant c.in-Err.ensures.failed;
}
