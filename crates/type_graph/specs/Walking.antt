-- Going over the types of nodes with a stack: the roots whose parts are gone over, and what is left of the parts of each.
use Rattle.std.specs.Prelude.{◌≡◌, ℕ, ◌+◌, ◌*◌, ◌<◌, ◌≤◌, List, [], ◌∷◌, length}
use mathlib.Core.Logic.{◌⊎◌}
use Rattle.fut_types.specs.Types.{Sub, Kinds, size}
use Rattle.type_graph.specs.declared.Form.{Form}
use Rattle.type_graph.specs.declared.Form.TheVariants as form
use Rattle.type_graph.specs.declared.Node.{Node}
use Rattle.type_graph.specs.declared.Entry.{Entry}
use Rattle.type_graph.specs.Graph.{node_at, Tables, Listed, Each, IsRoot, parts_of, arity, total, Solves}
use Rattle.type_graph.specs.declared.resolving.Mark.{Mark}
use Rattle.type_graph.specs.declared.resolving.Mark.TheVariants as mark
use Rattle.type_graph.specs.declared.resolving.Step.{Step}
use Rattle.type_graph.specs.Resolving.{Walked, mark_at, whites}

-- all parts of a root are left
abbrev pub step_of : List Node → ℕ → Step
step_of nodes root = record { root = root; left = (node_at nodes root).form }

-- i is the root of a step
unfoldable pub Stands : ℕ → List Step → Type 0
Stands i [] = ⊥
Stands i (s ∷ ss) = (i ≡ s.root) ⊎ Stands i ss

-- parts that can be read, of n nodes and m entries
abbrev pub Ahead : ℕ → ℕ → Form → Type 0
Ahead n m form.Free = Unit {0}
Ahead n m (form.Link j) = Unit {0}
Ahead n m (form.Made h x k) = x + k ≤ n
Ahead n m (form.Open e k) = (e < m) × (k ≤ m)

-- what is left are parts of the root, smaller than it, and where they have types all parts have
pub record IsStep (nodes : List Node) (entries : List Entry) (step : Step) : Type 0 where
  pub within : step.root < length nodes
  pub is_root : IsRoot (node_at nodes step.root).form
  pub ahead : Ahead (length nodes) (length entries) step.left
  pub parts : (T : Tables) → Listed entries T → Each (Walked nodes entries) (parts_of T step.left) → Each (Walked nodes entries) (parts_of T (node_at nodes step.root).form)
  pub smaller : (T : Tables) → Listed entries T → (K : Kinds) (a : Sub) → Solves T K a nodes → Each (λ c. size (a c) < size (a step.root)) (parts_of T step.left)

-- the types of the roots are smaller and smaller
unfoldable pub Falling : Sub → List Step → Type 0
Falling a [] = Unit {0}
Falling a (s ∷ ss) = Each (λ z. size (a z.root) < size (a s.root)) ss × Falling a ss

-- each open node is the root of a step, and those that are done have types and heights
pub record Underway (nodes : List Node) (entries : List Entry) (marks : List Mark) (steps : List Step) : Type 0 where
  pub long : length marks ≡ length nodes
  pub done : (i : ℕ) → mark_at marks i ≡ mark.Done → Walked nodes entries i
  pub opened : (i : ℕ) → mark_at marks i ≡ mark.Open → Stands i steps
  pub each : Each (IsStep nodes entries) steps
  pub falling : (T : Tables) → Listed entries T → (K : Kinds) (a : Sub) → Solves T K a nodes → Falling a steps

-- how much is left to do, for n nodes and m entries
abbrev pub left_of : Step → ℕ
left_of s = 1 + arity s.left

abbrev pub work : ℕ → ℕ → List Mark → List Step → ℕ
work n m marks steps = (2 + n + m) * whites marks + total left_of steps

-- some of the work is done, and no node is white again
pub record Goes (nodes : List Node) (entries : List Entry) (marks : List Mark) (steps : List Step) (marks' : List Mark) (steps' : List Step) : Type 0 where
  pub underway : Underway nodes entries marks' steps'
  pub seen : (i : ℕ) → mark_at marks' i ≡ mark.White → mark_at marks i ≡ mark.White
  pub less : work (length nodes) (length entries) marks' steps' < work (length nodes) (length entries) marks steps

-- child is the first of the parts that are left, and after has the others
pub record Splits (nodes : List Node) (entries : List Entry) (left : Form) (child : ℕ) (after : Form) : Type 0 where
  pub within : child < length nodes
  pub ahead : Ahead (length nodes) (length entries) after
  pub fewer : arity left ≡ 1 + arity after
  pub parts : (T : Tables) → Listed entries T → parts_of T left ≡ child ∷ parts_of T after

-- no part is left
abbrev pub IsOver : Form → Type 0
IsOver left = arity left ≡ 0
