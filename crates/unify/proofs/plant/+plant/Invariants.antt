use Rattle.std.proofs.Common.{◌<◌, ◌+◌, ◌*◌, length, take, map}
use Rattle.fut_types.specs.Types.{all_applied, size, sizes}
use Rattle.type_graph.specs.Graph.{Each, Tables, Told}
use Rattle.type_graph.specs.Claims.{Extends}
use Rattle.unify.specs.Substitutions.{type_of, row_of}
use Rattle.unify.specs.Putting.{Planted_all}
use Rattle.unify.proofs.plant.+plant.Given as goal

abbrev pub decreases-plant : goal.decreases-plant
decreases-plant l = 2 * size (type_of l.tree.now)

abbrev pub decreases-plant_parts : goal.decreases-plant_parts
decreases-plant_parts l = 2 * sizes (row_of (map type_of l.parts.now)) + 1

abbrev pub invariant-plant_parts-loop-part : goal.invariant-plant_parts-loop-part
invariant-plant_parts-loop-part l = record {
  extends : Extends l.table l.fn.nodes l.fn.entries l.nodes l.entries;
  numbers : Each (λ number. number < length l.nodes) l.numbers;
  so_far : (T : Tables) → Told l.table l.entries T → Planted_all T l.fn.nodes (λ a. all_applied a (row_of (map type_of (take l.part-index l.parts)))) l.numbers l.nodes;
}
