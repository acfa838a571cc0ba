use Rattle.std.proofs.Common.{◌≡◌, length, ℕ}
use Rattle.type_graph.specs.Resolving.{mark_at}
use Rattle.type_graph.specs.Walking.{Underway, work}
use Rattle.type_graph.specs.declared.resolving.Mark.TheVariants as mark
use Rattle.type_graph.proofs.resolving.visit.Given as goal

abbrev pub invariant-loop-step : goal.invariant-loop-step
invariant-loop-step l = record {
  underway : Underway l.nodes l.entries l.marks l.steps;
  seen : (i : ℕ) → mark_at l.marks i ≡ mark.White → mark_at l.initial.marks i ≡ mark.White;
}

abbrev pub decreases-loop-step : goal.decreases-loop-step
decreases-loop-step l = work (length l.nodes) (length l.entries) l.marks l.steps
