use Rattle.std.proofs.Common.{◌≤◌, ◌-◌}
use Rattle.type_schemes.specs.Schemes.{Opened, Entries, definition, next_to, no_label}
use Rattle.type_schemes.proofs.enter_row.Given as goal

abbrev pub invariant-loop-at : goal.invariant-loop-at
invariant-loop-at l = record {
  so_far : (entries : Entries) → Opened (definition l.nodes entries l.own l.depth) l.initial.store l.initial.memo l.first (next_to l.row) no_label l.at l.store l.memo;
  within : l.at ≤ l.count;
}

abbrev pub decreases-loop-at : goal.decreases-loop-at
decreases-loop-at l = l.count - l.at
