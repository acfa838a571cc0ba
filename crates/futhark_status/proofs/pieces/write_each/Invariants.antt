use Rattle.std.proofs.Common.{take}
use Rattle.std.specs.Prelude.{flat_map}
use Rattle.fut_io.specs.Outside.{Took}
use Rattle.futhark_status.specs.Report.{piece_bytes}
use Rattle.futhark_status.proofs.pieces.write_each.Given as goal

abbrev pub invariant-loop-piece : goal.invariant-loop-piece
invariant-loop-piece g l = Took (g.E.Sink.seen l.initial.err) (g.E.Sink.seen l.err) (flat_map piece_bytes (take l.piece-index l.pieces))
