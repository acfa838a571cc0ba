use Rattle.std.proofs.Common.{take}
use Rattle.type_graph.specs.Graph.{Tables, Told}
use Rattle.type_graph.specs.Claims.{Extends}
use Rattle.unify.specs.Substitutions.{Has_parts}
use Rattle.unify.specs.Putting.{Puts}
use Rattle.unify.proofs.load.put_parts.Given as goal

abbrev pub invariant-loop-part : goal.invariant-loop-part
invariant-loop-part l = record {
  extends : Extends l.table l.fn.nodes l.fn.entries l.nodes l.entries;
  so_far : (T : Tables) → Told l.table l.entries T → Puts T l.fn.nodes (λ K a. Has_parts T.shapes a (a l.number) (take l.part-index l.parts)) l.nodes;
}
