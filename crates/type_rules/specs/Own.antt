-- Nodes of a rule's own: they stand behind all nodes so far, and no node of the program is one.
use Rattle.std.specs.Prelude.{◌≡◌, ℕ, ◌+◌, ◌<◌, ◌≤◌, List, [], ◌∷◌, length}
use mathlib.Core.Logic.{◌⊎◌}
use Rattle.fut_types.specs.declared.shapes.ShapeTable.{ShapeTable}
use Rattle.fut_types.specs.Types.{Sub, Kinds}
use Rattle.fut_types.specs.Shapes.{Shapes}
use Rattle.type_graph.specs.declared.Node.{Node}
use Rattle.type_graph.specs.Graph.{Tables, Solves, IsGraph, IsBound}
use Rattle.type_graph.specs.Claims.{Inside, Grown}
use Rattle.type_rules.specs.declared.demand.Demand.{Demand}
use Rattle.type_rules.specs.declared.demand.Demand.TheVariants as demand
use Rattle.type_rules.specs.Demands.{All_met}

-- so many nodes more, of which nothing is known
pub record Freed (nodes : List Node) (count : ℕ) (nodes' : List Node) : Type 0 where
  pub graph : IsGraph nodes'
  pub long : length nodes' ≡ length nodes + count
  pub bound : (table : ShapeTable) (m : ℕ) → IsBound table m nodes → IsBound table m nodes'
  pub grown : (T : Tables) → Inside T nodes → Grown T nodes nodes'
  pub solves : (T : Tables) (K : Kinds) (a : Sub) → Solves T K a nodes → Solves T K a nodes'

-- a node of the program, or one of count from first on
abbrev pub Has_number : ℕ → ℕ → ℕ → ℕ → Type 0
Has_number base first count n = (n < base) ⊎ ((first ≤ n) × (n < first + count))

unfoldable pub Own : ShapeTable → ℕ → ℕ → ℕ → Demand → Type 0
Own table base first count (demand.Same i j) = Has_number base first count i × Has_number base first count j
Own table base first count (demand.Has i k) = Has_number base first count i
Own table base first count (demand.Is i s) = Has_number base first count i
Own table base first count (demand.Array i j) = Has_number base first count i × Has_number base first count j
Own table base first count (demand.Fun i from to) = Has_number base first count i × Has_number base first count from × Has_number base first count to
Own table base first count (demand.Pair i x y) = Has_number base first count i × Has_number base first count x × Has_number base first count y
Own table base first count (demand.Triple i x y z) = Has_number base first count i × Has_number base first count x × Has_number base first count y × Has_number base first count z
Own table base first count (demand.Part i label c) = Has_number base first count i × Has_number base first count c × (label < length table.positions)

unfoldable pub All_own : ShapeTable → ℕ → ℕ → ℕ → List Demand → Type 0
All_own table base first count [] = Unit {0}
All_own table base first count (d ∷ ds) = Own table base first count d × All_own table base first count ds

-- beside the types of the program's nodes there are types for others, of which P holds
pub record Beside (base : ℕ) (P : Kinds → Sub → Type 0) (K : Kinds) (a : Sub) : Type 0 where
  pub types : Sub
  pub agrees : (i : ℕ) → i < base → types i ≡ a i
  pub met : P K types

abbrev pub Met_beside : ℕ → List Demand → Shapes → Kinds → Sub → Type 0
Met_beside base ds S K a = Beside base (λ K b. All_met S K b ds) K a
