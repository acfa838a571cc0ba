use Rattle.std.proofs.Common.{◌≡◌}
use Rattle.chunk_work.proofs.Ordered.{all_put, few_chunks}
use Rattle.chunk_work.proofs.pairs.pairs_in_chunks.Goals as goal

pub sorted-requires : goal.sorted-requires
sorted-requires g c =
    let same : c.in_ok-draw.draw.chunks ≡ c.args.chunks = c.in_ok-draw.ensures.table.0 in
    let ran = rw same at c.in_ok-seat.ensures.ran.0 in
    few_chunks (g.T.Task.ran c.args.task.now) g.O.Puts.keeps (g.O.Puts.pairs_of c.args.places) c.args.chunks c.in_ok-seat.dones.items _ ran

pub returns-clause-put : goal.returns-clause-put
returns-clause-put g c =
    let same : c.in_ok-draw.draw.chunks ≡ c.args.chunks = c.in_ok-draw.ensures.table.0 in
    let ran = rw same at c.in_ok-seat.ensures.ran in
    let last = rw same at (c.finish.ensures c.in_ok-seat.ensures.seat.2) in
    rw c.in_ok-kept.ensures (all_put (g.T.Task.ran c.args.task.now) g.O.Puts.keeps (g.O.Puts.pairs_of c.args.places) c.args.chunks c.in_ok-seat.dones.items (g.P.SharedTable.pairs c.in_ok-seat.mine) c.in_ok-seat.seat.numbers last.0 ran.0 ran.1 last.1 last.2)
