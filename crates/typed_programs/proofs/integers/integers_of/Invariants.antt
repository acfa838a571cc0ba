use Rattle.std.proofs.Common.{◌≡◌, ◌≤◌, ◌-◌, length}
use Rattle.typed_programs.specs.Typed.{Nodes_tell}
use Rattle.typed_programs.proofs.integers.integers_of.Given as goal

abbrev pub invariant-loop-node : goal.invariant-loop-node
invariant-loop-node l = record {
  long : length l.integers ≡ l.node;
  within : l.node ≤ length l.inference.nodes;
  told : Nodes_tell l.inference.nodes l.integers l.node;
}

abbrev pub decreases-loop-node : goal.decreases-loop-node
decreases-loop-node l = length l.inference.nodes - l.node
