use Rattle.std.proofs.Common.{length}
use Rattle.type_graph.specs.Graph.{Tables, Told, Each, IsTask, Kept, weigh}
use Rattle.type_graph.proofs.Loop.{SoFar}
use Rattle.type_graph.proofs.solve.Given as goal

abbrev pub invariant-loop-task : goal.invariant-loop-task
invariant-loop-task l = record {
  kept : Kept l.table l.initial.nodes l.nodes l.initial.entries l.entries;
  within : Each (IsTask l.table (length l.nodes)) l.tasks;
  so_far : (T : Tables) → Told l.table l.entries T → SoFar T l.initial.nodes l.initial.tasks l.nodes l.tasks;
}

abbrev pub decreases-loop-task : goal.decreases-loop-task
decreases-loop-task l = weigh l.nodes l.tasks
