-- The levels of types that are made, which are lowered to those of their parts.
use Rattle.std.specs.Prelude.{ℕ, ◌+◌, ◌<◌, ◌≤◌, List, []}
use Rattle.fut_types.specs.Types.{Sub, Kinds}
use Rattle.type_graph.specs.declared.Node.{Node}
use Rattle.type_graph.specs.Graph.{node_at, Tables, Solves, Meeting, Found}
use Rattle.type_graph.specs.State.{State, Backed}

-- the level of a node's type is at most this
pub record Reaches (nodes : List Node) (c l : ℕ) : Type 0 where
  pub root : ℕ
  pub found : Found nodes c root
  pub low : (node_at nodes root).level ≤ l

-- those of a row of nodes are
abbrev pub Over : List Node → ℕ → ℕ → ℕ → Type 0
Over nodes first count l = (p : ℕ) → p < count → Reaches nodes (first + p) l

-- the same graph, but for levels that keep their reasons
pub record Lowered (T : Tables) (nodes nodes' : List Node) : Type 0 where
  pub forth : (K : Kinds) (a : Sub) → Solves T K a nodes → Solves T K a nodes'
  pub back : (K : Kinds) (a : Sub) → Solves T K a nodes' → Solves T K a nodes
  pub state : (home : ℕ → ℕ) (base : ℕ) → State T home base nodes [] → State T home base nodes' []
  pub backed : (home born : ℕ → ℕ) → Backed (Meeting T nodes []) home born nodes [] → Backed (Meeting T nodes' []) home born nodes' []
