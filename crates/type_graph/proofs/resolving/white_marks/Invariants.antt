use Rattle.std.proofs.Common.{◌≡◌, ◌≤◌, ◌-◌, length, ℕ}
use Rattle.type_graph.specs.Resolving.{mark_at}
use Rattle.type_graph.specs.declared.resolving.Mark.TheVariants as mark
use Rattle.type_graph.proofs.resolving.white_marks.Given as goal

abbrev pub invariant-loop-at : goal.invariant-loop-at
invariant-loop-at l = record {
  long : length l.marks ≡ l.at;
  white : (i : ℕ) → mark_at l.marks i ≡ mark.White;
  within : l.at ≤ l.count;
}

abbrev pub decreases-loop-at : goal.decreases-loop-at
decreases-loop-at l = l.count - l.at
