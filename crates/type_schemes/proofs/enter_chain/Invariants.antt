use Rattle.std.proofs.Common.{◌≡◌, ◌<◌, ◌≤◌, ◌-◌, length}
use Rattle.type_schemes.specs.Schemes.{Opened, definition, chain, child_at, label_at}
use Rattle.type_schemes.proofs.enter_chain.Given as goal

abbrev pub invariant-loop-at : goal.invariant-loop-at
invariant-loop-at l = record {
  so_far : Opened (definition l.nodes l.entries l.own l.depth) l.initial.store l.initial.memo l.first (child_at l.entries l.start) (label_at l.entries l.start) l.at l.store l.memo;
  here : l.place ≡ chain l.entries l.start l.at;
  inside : l.place < length l.entries;
  within : l.at ≤ l.count;
}

abbrev pub decreases-loop-at : goal.decreases-loop-at
decreases-loop-at l = l.count - l.at
