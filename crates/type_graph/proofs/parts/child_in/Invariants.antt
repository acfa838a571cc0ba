use Rattle.std.proofs.Common.{◌<◌, length}
use Rattle.fut_types.specs.Types.{Ty, Sub}
use Rattle.type_graph.specs.Graph.{Tables, Listed, Lacks, Names}
use Rattle.type_graph.proofs.parts.child_in.Given as goal

abbrev pub invariant-loop-rest : goal.invariant-loop-rest
invariant-loop-rest l = record {
  within : l.at < length l.entries;
  lacks : (T : Tables) → Listed l.entries T → Lacks T.entry l.label l.at l.rest → Lacks T.entry l.label l.start l.count;
  named : (T : Tables) → Listed l.entries T → (a : Sub) (t : Ty) → Names T a t l.start l.count → Names T a t l.at l.rest;
}

abbrev pub decreases-loop-rest : goal.decreases-loop-rest
decreases-loop-rest l = l.rest
