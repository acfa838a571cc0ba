-- What is added to a graph for a part of a program.
use Rattle.std.specs.Prelude.{◌≡◌, ℕ, ◌<◌, ◌≤◌, List, [], ◌∷◌, length}
use mathlib.Core.Logic.{◌⊎◌}
use Rattle.fut_types.specs.declared.Kind.{Kind}
use Rattle.fut_types.specs.declared.Kind.TheVariants as kind
use Rattle.fut_types.specs.declared.Head.TheVariants as head
use Rattle.fut_types.specs.declared.shapes.ShapeTable.{ShapeTable}
use Rattle.fut_types.specs.Types.{Tys, none, more, Sub, Kinds}
use Rattle.type_graph.specs.declared.Form.{Form}
use Rattle.type_graph.specs.declared.Form.TheVariants as form
use Rattle.type_graph.specs.declared.Node.{Node}
use Rattle.type_graph.specs.declared.Entry.{Entry}
use Rattle.type_graph.specs.declared.Task.{Task}
use Rattle.type_graph.specs.declared.Task.TheVariants as task
use Rattle.type_graph.specs.Graph.{far, node_at, Each, Tables, Plain, IsMaker, Told, parts_of, Solves, Meeting, IsGraph, IsBound, AreEntries}
use Rattle.type_graph.specs.State.{State, Backed}

abbrev pub new_node : Form → Node
new_node f = record { kind = kind.Any; level = far; form = f }

-- what may be added: a type parameter has one node, and named parts are asked for by tasks
abbrev pub Common : Form → Type 0
Common form.Free = Unit {0}
Common (form.Link j) = Unit {0}
Common (form.Made h x n) = IsMaker h
Common (form.Open e n) = ⊥

-- the node of a type parameter, at the level of its definition
abbrev pub parameter_node : ℕ → Kind → ℕ → Node
parameter_node n k l = record { kind = kind.Any; level = l; form = form.Made (head.Rigid n k) 0 0 }

-- nodes that are linked to others
unfoldable pub links : List ℕ → List Node
links [] = []
links (p ∷ ps) = new_node (form.Link p) ∷ links ps

unfoldable pub types_of : Sub → List ℕ → Tys
types_of a [] = none
types_of a (p ∷ ps) = more (a p) (types_of a ps)

-- nodes and entries are well-formed, and within the table
pub record Sound (table : ShapeTable) (nodes : List Node) (entries : List Entry) : Type 0 where
  pub graph : IsGraph nodes
  pub bound : IsBound table (length entries) nodes
  pub are : AreEntries table (length nodes) entries

-- nodes and entries stay well-formed; no node goes, and all entries stand where they stood
pub record Extends (table : ShapeTable) (nodes : List Node) (entries : List Entry) (nodes' : List Node) (entries' : List Entry) : Type 0 where
  pub sound : Sound table nodes' entries'
  pub longer : length nodes ≤ length nodes'
  pub told : (T : Tables) → Told table entries' T → Told table entries T

-- a task lowers no level but with a reason
abbrev pub Allowed : (ℕ → ℕ) → Task → Type 0
Allowed home (task.Same i j) = Unit {0}
Allowed home (task.Has i k l) = (home i ≤ l) ⊎ (far ≤ l)
Allowed home (task.Part i label c) = Unit {0}

-- what a gives to the first nodes can be carried on to all
pub record Possible (T : Tables) (base : ℕ) (K : Kinds) (a : Sub) (nodes : List Node) : Type 0 where
  pub full : Sub
  pub agrees : (i : ℕ) → i < base → full i ≡ a i
  pub solves : Solves T K full nodes

-- nodes' allows what nodes allows and P holds of; levels keep their reasons where the homes are as H says
pub record Adds (T : Tables) (base : ℕ) (P : Kinds → Sub → Type 0) (H : (ℕ → ℕ) → Type 0) (nodes nodes' : List Node) : Type 0 where
  pub forth : (K : Kinds) (a : Sub) → Possible T base K a nodes → P K a → Possible T base K a nodes'
  pub back : (K : Kinds) (a : Sub) → Possible T base K a nodes' → Possible T base K a nodes
  pub done : (K : Kinds) (a : Sub) → Possible T base K a nodes' → P K a
  pub keeps : (K : Kinds) (a : Sub) → Solves T K a nodes' → Solves T K a nodes
  pub state : (home : ℕ → ℕ) → State T home base nodes [] → State T home base nodes' []
  pub backed : (home born : ℕ → ℕ) → H home → Backed (Meeting T nodes []) home born nodes [] → Backed (Meeting T nodes' []) home born nodes' []

-- where each type parameter stands for itself, P holds of no types that nodes allows
abbrev pub Nowhere : Tables → ℕ → (Kinds → Sub → Type 0) → List Node → Type 0
Nowhere T base P nodes = Plain T → (K : Kinds) (a : Sub) → Possible T base K a nodes → P K a → ⊥

-- in all solutions node i has the type that the type parameter stands for
abbrev pub Stands : Tables → List Node → ℕ → ℕ → Kind → Type 0
Stands T nodes i n k = (K : Kinds) (a : Sub) → Solves T K a nodes → a i ≡ T.rigid n k

-- a type parameter has got its node
pub record Bears (T : Tables) (base n : ℕ) (k : Kind) (l : ℕ) (nodes nodes' : List Node) : Type 0 where
  pub forth : (K : Kinds) (a : Sub) → Possible T base K a nodes → Possible T base K a nodes'
  pub back : (K : Kinds) (a : Sub) → Possible T base K a nodes' → Possible T base K a nodes
  pub keeps : (K : Kinds) (a : Sub) → Solves T K a nodes' → Solves T K a nodes
  pub stands : Stands T nodes' (length nodes) n k
  pub state : (home : ℕ → ℕ) → State T home base nodes [] → State T home base nodes' []
  pub backed : (home born : ℕ → ℕ) → born n ≤ l → Backed (Meeting T nodes []) home born nodes [] → Backed (Meeting T nodes' []) home born nodes' []

-- the parts of all nodes are nodes
abbrev pub Inside : Tables → List Node → Type 0
Inside T nodes = (i : ℕ) → i < length nodes → Each (λ c. c < length nodes) (parts_of T (node_at nodes i).form)

-- the same nodes, and more
pub record Grown (T : Tables) (nodes nodes' : List Node) : Type 0 where
  pub graph : IsGraph nodes'
  pub longer : length nodes ≤ length nodes'
  pub old : (i : ℕ) → i < length nodes → node_at nodes' i ≡ node_at nodes i
  pub inside : Inside T nodes'
  pub state : (home : ℕ → ℕ) (base : ℕ) → base ≤ length nodes → State T home base nodes [] → State T home base nodes' []
  pub backed : (home born : ℕ → ℕ) → Backed (Meeting T nodes []) home born nodes [] → Backed (Meeting T nodes' []) home born nodes' []
