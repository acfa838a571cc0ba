use Rattle.std.proofs.Common.{ℕ, ◌-◌, List, length, take}
use Rattle.fut_types.specs.declared.shapes.ShapeTable.{ShapeTable}
use Rattle.type_graph.specs.declared.Node.{Node}
use Rattle.type_graph.specs.declared.Entry.{Entry}
use Rattle.type_graph.specs.Graph.{Tables, Told}
use Rattle.type_graph.specs.Claims.{Extends, Adds}
use Rattle.type_rules.specs.declared.demand.Demand.{Demand}
use Rattle.type_rules.specs.Demands.{All_met, All_allow}
use Rattle.type_rules.proofs.demand.put.Given as goal

-- the first demands are put in
pub record Done (table : ShapeTable) (base : ℕ) (nodes : List Node) (entries : List Entry) (nodes' : List Node) (entries' : List Entry) (ds : List Demand) : Type 0 where
  pub extends : Extends table nodes entries nodes' entries'
  pub adds : (T : Tables) → Told table entries' T → Adds T base (λ K a. All_met T.shapes K a ds) (λ home. All_allow home ds) nodes nodes'

abbrev pub decreases-loop-at : goal.decreases-loop-at
decreases-loop-at l = length l.initial.demands - l.at

abbrev pub invariant-loop-at : goal.invariant-loop-at
invariant-loop-at l = Done l.table l.base l.fn.nodes l.fn.entries l.nodes l.entries (take l.at l.demands)
