-- A node's type that another's gives.
use Rattle.std.specs.Prelude.{◌≡◌, ℕ, List}
use Rattle.fut_types.specs.Types.{Ty, Sub, Kinds, fun_ty}
use Rattle.type_graph.specs.declared.Node.{Node}
use Rattle.type_graph.specs.Graph.{Tables, Solves}

-- whatever types solve the graph, the first node's is one of functions, and gives the second's
abbrev pub Gives : List Node → ℕ → ℕ → Type 0
Gives nodes i j = (T : Tables) (K : Kinds) (a : Sub) → Solves T K a nodes → (t : Ty) × (a i ≡ fun_ty t (a j))
