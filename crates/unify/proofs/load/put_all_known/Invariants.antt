use Rattle.std.proofs.Common.{◌≡◌}
use Rattle.type_graph.specs.Graph.{Tables, Told}
use Rattle.type_graph.specs.Claims.{Extends}
use Rattle.unify.specs.Substitutions.{Suit_first}
use Rattle.unify.specs.Putting.{Puts}
use Rattle.unify.proofs.load.put_all_known.Given as goal

abbrev pub invariant-loop-one : goal.invariant-loop-one
invariant-loop-one l = record {
  extends : Extends l.table l.fn.nodes l.fn.entries l.nodes l.entries;
  so_far : (T : Tables) → Told l.table l.entries T → Puts T l.fn.nodes (λ K a. Suit_first T.shapes K a l.known l.number) l.nodes;
  count : l.number ≡ l.one-index;
}
