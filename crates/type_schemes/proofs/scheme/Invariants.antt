use Rattle.std.proofs.Common.{◌≡◌, ◌<◌, ◌≤◌, ◌-◌, length}
use Rattle.type_schemes.specs.Schemes.{Extends, Partial, Alike, definition, part_at, memo_at}
use Rattle.type_schemes.proofs.scheme.Given as goal

abbrev pub invariant-loop-at : goal.invariant-loop-at
invariant-loop-at l = record {
  start : length l.fn.store ≡ l.first;
  extends : Extends l.fn.store l.store;
  memo : length l.nodes ≤ length l.memo;
  parts : Partial (definition l.nodes l.entries l.own l.depth) l.store l.first (length l.store) (memo_at l.memo) l.at;
  alike : Alike l.nodes (part_at l.store l.first).source l.root;
  from : l.first ≤ l.at;
  to : l.at ≤ length l.store;
  some : l.first < length l.store;
  short : length l.store < 4294967295;
}

abbrev pub decreases-loop-at : goal.decreases-loop-at
decreases-loop-at l = 4294967295 - l.at
