use Rattle.std.proofs.Common.{◌≡◌, ◌<◌, ◌++◌, length}
use Rattle.type_graph.specs.Graph.{Tables, Listed, chain_tasks}
use Rattle.type_graph.proofs.tasks.push_parts.Given as goal

abbrev pub invariant-loop-rest : goal.invariant-loop-rest
invariant-loop-rest l = record {
  within : l.at < length l.entries;
  so_far : (T : Tables) → Listed l.entries T → l.tasks ++ chain_tasks T l.of l.at l.rest ≡ l.initial.tasks ++ chain_tasks T l.of l.start l.count;
}

abbrev pub decreases-loop-rest : goal.decreases-loop-rest
decreases-loop-rest l = l.rest
