use Rattle.std.proofs.Common.{◌≡◌}
use Rattle.chunk_draw.specs.Seats as draws
use Rattle.pair_table.specs.Pairs as pairs
use Rattle.test_calls.proofs.tables.work.Given as goal

abbrev pub invariant-loop-turn : goal.invariant-loop-turn
invariant-loop-turn l = record {
  own : draws.IsSeatOf l.draw l.seat;
  parts : l.seat.parts ≡ l.fn.seat.parts;
  place : pairs.IsSeatOf l.table l.mine;
  place_parts : l.mine.parts ≡ l.fn.mine.parts;
}
