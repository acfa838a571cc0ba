use Rattle.std.proofs.Common.{take}
use Rattle.type_graph.specs.Graph.{Tables, Told}
use Rattle.type_graph.specs.Claims.{Extends}
use Rattle.unify.specs.Substitutions.{Bound}
use Rattle.unify.specs.Putting.{Puts}
use Rattle.unify.proofs.load.put_binds.Given as goal

abbrev pub invariant-loop-bind : goal.invariant-loop-bind
invariant-loop-bind l = record {
  extends : Extends l.table l.fn.nodes l.fn.entries l.nodes l.entries;
  so_far : (T : Tables) → Told l.table l.entries T → Puts T l.fn.nodes (λ K a. Bound a (take l.bind-index l.binds)) l.nodes;
}
