-- A use of a definition.
use Rattle.std.specs.Prelude.{◌≡◌, ℕ, zero, suc, ◌+◌, ◌-◌, ◌<◌, ◌≤◌, List, [], ◌∷◌, ◌++◌, length}
use Rattle.fut_types.specs.declared.shapes.ShapeTable.{ShapeTable}
use Rattle.fut_types.specs.Shapes.{Shapes}
use Rattle.fut_types.specs.Types.{Sub, Kinds}
use Rattle.type_graph.specs.declared.Node.{Node}
use Rattle.type_graph.specs.declared.Task.{Task}
use Rattle.type_graph.specs.declared.Task.TheVariants as task
use Rattle.type_graph.specs.Graph.{far, Tables, Solves, Meets}
use Rattle.type_graph.specs.Claims.{Grown}
use Rattle.type_schemes.specs.declared.Part.{Part}
use Rattle.type_schemes.specs.Schemes.{part_at, PartFits, Instance}

-- a task of a use: it lowers no level
abbrev pub IsUse : ℕ → Task → Type 0
IsUse n (task.Same i j) = (i < n) × (j < n)
IsUse n (task.Has i k l) = (i < n) × (far ≤ l)
IsUse n (task.Part i label c) = (i < n) × (c < n)

-- its labels are in the table
abbrev pub IsLabelled : ShapeTable → Task → Type 0
IsLabelled table (task.Same i j) = Unit {0}
IsLabelled table (task.Has i k l) = Unit {0}
IsLabelled table (task.Part i label c) = label < length table.positions

-- node i has the nodes in a row as its parts, under the labels of the parts that they stand for
unfoldable pub asked : List Part → ℕ → ℕ → ℕ → ℕ → List Task
asked store i x c zero = []
asked store i x c (suc n) = asked store i x c n ++ task.Part i (part_at store (x + n)).label (c + n) ∷ []

-- nodes and tasks are added that ask for Q
pub record Pushes (T : Tables) (nodes : List Node) (tasks : List Task) (Q : Kinds → Sub → Type 0) (nodes' : List Node) (tasks' : List Task) : Type 0 where
  pub grown : Grown T nodes nodes'
  pub forth : (K : Kinds) (a : Sub) → Meets T nodes tasks K a → Q K a → (full : Sub) × ((i : ℕ) → i < length nodes → full i ≡ a i) × Meets T nodes' tasks' K full
  pub back : (K : Kinds) (a : Sub) → Meets T nodes' tasks' K a → Meets T nodes tasks K a
  pub done : (K : Kinds) (a : Sub) → Meets T nodes' tasks' K a → Q K a

-- the node start + at has the type of this part, where the parts' nodes begin at start
abbrev pub Use : Shapes → List Part → ℕ → ℕ → ℕ → Part → Kinds → Sub → Type 0
Use S store first start at p K a = PartFits S store K a (λ m. a (start + (m - first))) (a (start + at)) p

abbrev pub Uses : Shapes → List Part → ℕ → ℕ → ℕ → Kinds → Sub → Type 0
Uses S store first start count K a = (k : ℕ) → k < count → Use S store first start k (part_at store (first + k)) K a

-- free nodes more
pub record Frees (T : Tables) (nodes nodes' : List Node) : Type 0 where
  pub grown : Grown T nodes nodes'
  pub solves : (K : Kinds) (a : Sub) → Solves T K a nodes → Solves T K a nodes'

-- the node's type is one of the definition
pub record Instanced (T : Tables) (base : ℕ) (nodes : List Node) (store : List Part) (first count number : ℕ) (K : Kinds) (a : Sub) : Type 0 where
  pub full : Sub
  pub agrees : (i : ℕ) → i < base → full i ≡ a i
  pub solves : Solves T K full nodes
  pub instance : Instance T.shapes store first count K full (a number)
