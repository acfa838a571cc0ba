use Rattle.std.proofs.Common.{◌≡◌, ℕ, ◌<◌, length}
use Rattle.fut_types.specs.Types.{Sub, Kinds}
use Rattle.type_graph.specs.Graph.{Tables, Solves, Like}
use Rattle.type_graph.specs.State.{Tops}
use Rattle.type_graph.proofs.roots.find_short.Given as goal

abbrev pub invariant-loop-next : goal.invariant-loop-next
invariant-loop-next l = record {
  within : l.at < length l.nodes;
  like : Like l.fn.nodes l.nodes;
  same : (T : Tables) (K : Kinds) (a : Sub) → Solves T K a l.nodes → a l.start ≡ a l.at;
  tops : (top : ℕ → ℕ) → Tops l.nodes top → top l.start ≡ top l.at;
}

abbrev pub decreases-loop-next : goal.decreases-loop-next
decreases-loop-next l = l.at
