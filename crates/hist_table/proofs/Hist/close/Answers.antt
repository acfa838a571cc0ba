use Rattle.std.proofs.Common.{subst}
use Rattle.phase_model.specs.Kept.{DoneOnce}
use Rattle.phase_model.specs.Machine.{combines}
use Rattle.phase_model.proofs.Words.{words_follow}
use Rattle.pair_table.specs.Pairs.{op_of}
use Rattle.hist_table.proofs.Hist.close.Goals as goal

pub returns : goal.returns
returns c =
    let table = c.args.self in
    let done : DoneOnce (op_of table.operation) table.old c.close.result c.args.seat.pairs = subst (λ t. DoneOnce (op_of t.operation) t.old c.close.result c.args.seat.pairs) c.self.view_is c.close.ensures in
    let each = words_follow (combines (op_of table.operation)) table.old c.close.result c.args.seat.pairs done in
    record { order = done; length = each.0; words = each.1 }
