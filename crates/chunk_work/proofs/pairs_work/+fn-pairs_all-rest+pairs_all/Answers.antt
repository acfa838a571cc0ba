use Rattle.std.proofs.Common.{rules}
use Rattle.chunk_work.proofs.Putting.{both_put}
use Rattle.chunk_work.proofs.pairs_work.+fn-pairs_all-rest+pairs_all.Goals as goal

pub returns-clause-ran : goal.returns-clause-ran
returns-clause-ran g t c =
    let a = rw c.in_ok-seat.was at c.join-first.ensures.first.1 in
    let b = rw c.in_ok-theirs.was at c.join-first.ensures.second.1 in
    both_put (g.T.Task.ran c.args.task.now) g.O.Puts.keeps (g.O.Puts.pairs_of c.args.places) c.args.draw.now.chunks c.in_ok-seat.dones.items c.in_ok-theirs.added.items _ (g.P.SharedTable.pairs c.in_ok-seat.mine) (g.P.SharedTable.pairs c.in_ok-theirs.more) _ c.in_ok-seat.seat.numbers c.in_ok-theirs.theirs.numbers _ c.in_ok-all.ensures (search rules) (search rules) a b
