use Rattle.std.proofs.Common.{◌≡◌, ◌<◌, ◌≤◌, ◌-◌, ◌++◌, length, drop}
use Rattle.type_graph.specs.Claims.{links}
use Rattle.type_graph.proofs.claims.push_links.Given as goal

abbrev pub invariant-loop-at : goal.invariant-loop-at
invariant-loop-at l = record {
  so_far : l.nodes ++ links (drop l.at l.parts) ≡ l.initial.nodes ++ links l.parts;
  within : l.at ≤ length l.parts;
  room : length l.nodes < 4294967295;
}

abbrev pub decreases-loop-at : goal.decreases-loop-at
decreases-loop-at l = length l.parts - l.at
