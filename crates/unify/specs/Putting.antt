-- What is put into a graph for a substitution and two types. A graph speaks of types for all its nodes; the first nodes
-- are the variables.
use Rattle.std.specs.Prelude.{◌≡◌, ℕ, ◌<◌, ◌≤◌, List, [], length}
use Rattle.fut_types.specs.declared.shapes.ShapeTable.{ShapeTable}
use Rattle.fut_types.specs.Types.{Ty, Tys, Sub, Kinds}
use Rattle.type_graph.specs.declared.Node.{Node}
use Rattle.type_graph.specs.Graph.{far, Tables, Plain, Solves, IsGraph, IsBound}
use Rattle.type_graph.specs.State.{State}
use Rattle.type_graph.specs.Claims.{Inside, types_of}

-- what is noted reaches the parts
abbrev pub Ready : Tables → List Node → Type 0
Ready T nodes = State T (λ n. far) 0 nodes []

-- so many nodes of which nothing is known
pub record Blank (count : ℕ) (nodes : List Node) : Type 0 where
  pub graph : IsGraph nodes
  pub long : length nodes ≡ count
  pub bound : (table : ShapeTable) (m : ℕ) → IsBound table m nodes
  pub inside : (T : Tables) → Inside T nodes
  pub solves : (T : Tables) (K : Kinds) (a : Sub) → Solves T K a nodes
  pub ready : (T : Tables) → Ready T nodes

-- nodes' allows what nodes allows and P holds of, carried on to the new nodes
pub record Puts (T : Tables) (nodes : List Node) (P : Kinds → Sub → Type 0) (nodes' : List Node) : Type 0 where
  pub longer : length nodes ≤ length nodes'
  pub forth : (K : Kinds) (a : Sub) → Solves T K a nodes → P K a → (full : Sub) × ((i : ℕ) → i < length nodes → full i ≡ a i) × Solves T K full nodes'
  pub back : (K : Kinds) (a : Sub) → Solves T K a nodes' → Solves T K a nodes
  pub done : (K : Kinds) (a : Sub) → Solves T K a nodes' → P K a
  pub ready : Ready T nodes → Ready T nodes'

-- P holds of nothing that nodes allows
abbrev pub Bars : Tables → List Node → (Kinds → Sub → Type 0) → Type 0
Bars T nodes P = Plain T → (K : Kinds) (a : Sub) → Solves T K a nodes → P K a → ⊥

abbrev pub Always : Kinds → Sub → Type 0
Always K a = Unit {0}

-- a new node has the type that f makes of the types of the old ones
pub record Planted (T : Tables) (nodes : List Node) (f : Sub → Ty) (number : ℕ) (nodes' : List Node) : Type 0 where
  pub puts : Puts T nodes Always nodes'
  pub same : (K : Kinds) (a : Sub) → Solves T K a nodes' → a number ≡ f a

pub record Planted_all (T : Tables) (nodes : List Node) (f : Sub → Tys) (numbers : List ℕ) (nodes' : List Node) : Type 0 where
  pub puts : Puts T nodes Always nodes'
  pub same : (K : Kinds) (a : Sub) → Solves T K a nodes' → types_of a numbers ≡ f a
