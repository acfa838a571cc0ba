use Rattle.std.proofs.Common.{◌≡◌, ◌-◌, map}
use Rattle.chunk_draw.specs.Seats.{IsSeatOf}
use Rattle.chunk_work.specs.Runs.{chunk_of, top}
use Rattle.chunk_work.specs.Puts.{EachPut}
use Rattle.chunk_work.proofs.pairs_work.pairs_alone.Given as goal

abbrev pub invariant-loop-c : goal.invariant-loop-c
invariant-loop-c g l = record {
  own : IsSeatOf l.draw l.seat;
  parts : l.seat.parts ≡ l.fn.seat.parts;
  own_mine : g.P.SharedTable.is_of l.table l.mine;
  mine_parts : g.P.SharedTable.parts l.mine ≡ g.P.SharedTable.parts l.fn.mine;
  numbers : l.seat.numbers ≡ map chunk_of l.dones.items;
  put : EachPut (g.T.Task.ran l.task) g.O.Puts.keeps (g.O.Puts.pairs_of l.places) l.draw.chunks l.dones.items (g.P.SharedTable.pairs l.mine);
}

abbrev pub decreases-loop-c : goal.decreases-loop-c
decreases-loop-c g l = l.draw.chunks - top l.seat.numbers
