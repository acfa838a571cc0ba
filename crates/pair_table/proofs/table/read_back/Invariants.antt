use Rattle.std.proofs.Common.{◌≡◌, take, length}
use Rattle.std.specs.Slots.{slots_items}
use Rattle.pair_table.proofs.table.read_back.Given as goal

abbrev pub invariant-loop-i : goal.invariant-loop-i
invariant-loop-i l = record {
  long : length l.words ≡ length l.fn.words;
  read : take l.i l.words ≡ take l.i (slots_items l.closed.words);
}
