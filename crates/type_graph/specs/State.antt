-- What is kept while tasks are done: the kinds and levels that are noted reach the parts, and levels have their reasons.
use Rattle.std.specs.Prelude.{◌≡◌, ℕ, ◌<◌, ◌≤◌, List, [], ◌∷◌, length}
use mathlib.Core.Logic.{◌⊎◌}
use Rattle.fut_types.specs.declared.Kind.{Kind}
use Rattle.fut_types.specs.Types.{Sub, Kinds, level, cap}
use Rattle.type_graph.specs.declared.Form.{Form}
use Rattle.type_graph.specs.declared.Form.TheVariants as form
use Rattle.type_graph.specs.declared.Node.{Node}
use Rattle.type_graph.specs.declared.Task.{Task}
use Rattle.type_graph.specs.declared.Task.TheVariants as task
use Rattle.type_graph.specs.Nodes.{node_at, IsRoot, Each, far, Reading, Tables, parts_of, Once, IsParameter}

-- what may be asked of the note of a node
pub data Ask : Type 0 where
  AtLeast : ℕ → Ask
  AtMost : ℕ → Ask

abbrev pub Obeys : Ask → Kind → ℕ → Type 0
Obeys (AtLeast n) k l = n ≤ level k
Obeys (AtMost n) k l = l ≤ n

-- top gives each node the node that its links lead to
pub record Tops (nodes : List Node) (top : ℕ → ℕ) : Type 0 where
  pub below : (i : ℕ) → i < length nodes → top i < length nodes
  pub roots : (i : ℕ) → i < length nodes → IsRoot (node_at nodes (top i)).form
  pub links : (i j : ℕ) → i < length nodes → (node_at nodes i).form ≡ form.Link j → top i ≡ top j
  pub selves : (i : ℕ) → i < length nodes → IsRoot (node_at nodes i).form → top i ≡ i

-- a task that is left asks it of this root
abbrev pub Waits : (ℕ → ℕ) → ℕ → Ask → List Task → Type 0
Waits top r q [] = ⊥
Waits top r q (task.Same i j ∷ ts) = Waits top r q ts
Waits top r q (task.Has i k l ∷ ts) = ((top i ≡ r) × Obeys q k l) ⊎ Waits top r q ts
Waits top r q (task.Part i label c ∷ ts) = Waits top r q ts

abbrev pub Sure : List Node → List Task → (ℕ → ℕ) → Ask → ℕ → Type 0
Sure nodes tasks top q c = Obeys q (node_at nodes (top c)).kind (node_at nodes (top c)).level ⊎ Waits top (top c) q tasks

-- the highest kind that a type of this form may have
abbrev pub form_cap : Form → ℕ
form_cap form.Free = 4
form_cap (form.Link j) = 4
form_cap (form.Made h x n) = cap h
form_cap (form.Open e n) = 2

-- what is noted at a node is noted at its parts, or a task will see to it; no label stands twice in a chain; what is
-- made by a type parameter is the root of its one node
pub record State (T : Tables) (home : ℕ → ℕ) (base : ℕ) (nodes : List Node) (tasks : List Task) : Type 0 where
  pub top : ℕ → ℕ
  pub tops : Tops nodes top
  pub capped : (i : ℕ) → i < length nodes → level (node_at nodes i).kind ≤ form_cap (node_at nodes i).form
  pub parts : (i : ℕ) (q : Ask) → i < length nodes → Obeys q (node_at nodes i).kind (node_at nodes i).level → Each (Sure nodes tasks top q) (parts_of T (node_at nodes i).form)
  pub bare : (i j : ℕ) → i < length nodes → (node_at nodes i).form ≡ form.Link j → level (node_at nodes i).kind ≡ 0
  pub afar : (i j : ℕ) → i < length nodes → (node_at nodes i).form ≡ form.Link j → far ≤ (node_at nodes i).level
  pub homes : (m : ℕ) → m < base → Sure nodes tasks top (AtMost (home m)) m
  pub once : (i : ℕ) → i < length nodes → Once T (node_at nodes i).form
  pub seated : (n i : ℕ) → i < length nodes → IsParameter n (node_at nodes i).form → (T.seat n < length nodes) × (top i ≡ top (T.seat n))

-- two readings and two choices of types agree on the program's nodes and the type parameters of level l and below
pub record Agrees (home born : ℕ → ℕ) (l : ℕ) (r : Reading) (a : Sub) (r' : Reading) (a' : Sub) : Type 0 where
  pub numbers : (m : ℕ) → home m ≤ l → a m ≡ a' m
  pub parameters : (n : ℕ) (k : Kind) → born n ≤ l → r n k ≡ r' n k

-- the solutions S of all readings give node i the type that the program's nodes and the type parameters of level l and
-- below leave for it
abbrev pub Fixed : (Reading → Kinds → Sub → Type 0) → (ℕ → ℕ) → (ℕ → ℕ) → ℕ → ℕ → Type 0
Fixed S home born l i = l < far → (r : Reading) (K : Kinds) (a : Sub) (r' : Reading) (K' : Kinds) (a' : Sub) → S r K a → S r' K' a' → Agrees home born l r a r' a' → a i ≡ a' i

-- a part of a type is fixed where the type is, so that only the levels that are asked for need reasons
abbrev pub FixedTask : (Reading → Kinds → Sub → Type 0) → (ℕ → ℕ) → (ℕ → ℕ) → Task → Type 0
FixedTask S home born (task.Same i j) = Unit {0}
FixedTask S home born (task.Has i k l) = Fixed S home born l i
FixedTask S home born (task.Part i label c) = Unit {0}

-- home tells at which level a node of the program is fixed, and born a type parameter
pub record Backed (S : Reading → Kinds → Sub → Type 0) (home born : ℕ → ℕ) (nodes : List Node) (tasks : List Task) : Type 0 where
  pub notes : (i : ℕ) → i < length nodes → Fixed S home born (node_at nodes i).level i
  pub asks : Each (FixedTask S home born) tasks
