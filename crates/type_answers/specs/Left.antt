-- What is left undetermined in a settled graph: a variable that == or ! wants to know, or one that has named parts.
use Rattle.std.specs.Prelude.{◌≡◌, ℕ, Bool, true, false, List, [], ◌∷◌, slice_index_or, slice_set}
use mathlib.Core.Logic.{◌⊎◌}
use Rattle.fut_types.specs.declared.Kind.{Kind}
use Rattle.fut_typing.specs.Answers.{IsWanted, Stands}
use Rattle.type_graph.specs.declared.Form.{Form}
use Rattle.type_graph.specs.declared.Form.TheVariants as form
use Rattle.type_graph.specs.declared.Node.{Node}
use Rattle.type_graph.specs.Graph.{node_at, numbers, Tables}
use Rattle.type_graph.specs.State.{State}
use Rattle.type_graph.specs.Resolving.{resolved, Stable}

abbrev pub Undecided : Kind → Form → Type 0
Undecided k form.Free = IsWanted k
Undecided k (form.Link j) = ⊥
Undecided k (form.Made h x n) = ⊥
Undecided k (form.Open e n) = Unit {0}

abbrev pub IsUndecided : List Node → ℕ → Type 0
IsUndecided nodes v = Undecided (node_at nodes v).kind (node_at nodes v).form

-- the variable v stands in the type of node n
abbrev pub Stands_in_type : List Node → ℕ → ℕ → Type 0
Stands_in_type nodes n v = (T : Tables) (home : ℕ → ℕ) (base : ℕ) → State T home base nodes [] → (D : ℕ) → Stable nodes D → Stands v (resolved nodes D n)

-- nothing that stands in the type of node n is undecided
abbrev pub Decided : List Node → ℕ → Type 0
Decided nodes n = (T : Tables) (home : ℕ → ℕ) (base : ℕ) → State T home base nodes [] → (D : ℕ) → Stable nodes D → (v : ℕ) → Stands v (resolved nodes D n) → IsUndecided nodes v → ⊥

-- the nodes that a type is made of
abbrev pub made_parts : Form → List ℕ
made_parts form.Free = []
made_parts (form.Link j) = []
made_parts (form.Made h x n) = numbers x n
made_parts (form.Open e n) = []

unfoldable pub seen_at : List Bool → ℕ → Bool
seen_at seen i = slice_index_or seen i false

unfoldable pub with_seen : List Bool → ℕ → Bool → List Bool
with_seen seen i b = slice_set seen i b

-- a number is in a list
abbrev pub On : ℕ → List ℕ → Type 0
On c [] = ⊥
On c (x ∷ xs) = (c ≡ x) ⊎ On c xs

-- what is seen is decided, and its parts are seen or are to be
pub record Seen (nodes : List Node) (seen : List Bool) (stack : List ℕ) (top : ℕ → ℕ) : Type 0 where
  pub fine : (i : ℕ) → seen_at seen i ≡ true → IsUndecided nodes i → ⊥
  pub parts : (i : ℕ) → seen_at seen i ≡ true → (c : ℕ) → On c (made_parts (node_at nodes i).form) → (seen_at seen (top c) ≡ true) ⊎ On c stack
