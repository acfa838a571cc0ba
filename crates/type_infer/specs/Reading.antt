-- Types read off the graph of a program, one layer at a time: with i32 for each type of integers that is left undetermined, or
-- before any default for what is generalised.
use Rattle.std.specs.Prelude.{◌≡◌, ℕ, zero, suc, ◌<◌, ◌≤◌, List, length}
use Rattle.fut_scalar.specs.declared.scalar.ScalarType.TheVariants as scalar
use Rattle.fut_scalar.specs.declared.scalar.IntType.TheVariants as int
use Rattle.fut_types.specs.declared.Head.TheVariants as head
use Rattle.fut_types.specs.declared.Kind.{Kind}
use Rattle.fut_types.specs.declared.Kind.TheVariants as kind
use Rattle.fut_types.specs.Types.{Ty, Var, Made, Tys, none, more, Sub, applied}
use Rattle.fut_typing.specs.Answers.{default_at}
use Rattle.type_graph.specs.declared.Form.{Form}
use Rattle.type_graph.specs.declared.Form.TheVariants as form
use Rattle.type_graph.specs.declared.Node.{Node}
use Rattle.type_graph.specs.Graph.{node_at, IsRoot}
use Rattle.type_graph.specs.Resolving.{resolved}

-- which types nodes have
abbrev pub Shown : Type 1
Shown = ℕ → Ty → Type 0

-- node i has this type, from some depth on, where s stands for variables
abbrev pub Reads : Sub → List Node → Shown
Reads s nodes i t = (D : ℕ) × ((d : ℕ) → D ≤ d → applied s (resolved nodes d i) ≡ t)

-- what stands for variable v: its default, if it is left undetermined
abbrev pub default_of : ℕ → Kind → Form → Ty
default_of v k form.Free = default_at v k
default_of v k (form.Link j) = Var v
default_of v k (form.Made h x n) = Var v
default_of v k (form.Open e n) = Var v

abbrev pub node_default : ℕ → Node → Ty
node_default v node = default_of v node.kind node.form

abbrev pub Comes_to : List Node → Shown
Comes_to nodes = Reads (λ v. node_default v (node_at nodes v)) nodes

-- what has one type in all uses of definitions has level 0, and only that gets its default
abbrev pub fixed_at : ℕ → Node → ℕ → Ty
fixed_at v node zero = node_default v node
fixed_at v node (suc l) = Var v

abbrev pub fixed_default : ℕ → Node → Ty
fixed_default v node = fixed_at v node node.level

-- before any default for what is generalised
abbrev pub Generally : List Node → Shown
Generally nodes = Reads (λ v. fixed_default v (node_at nodes v)) nodes

-- the nodes in a row have these types
abbrev pub Row_comes : Shown → ℕ → ℕ → Tys → Type 0
Row_comes R x zero none = Unit {0}
Row_comes R x zero (more t ts) = ⊥
Row_comes R x (suc n) none = ⊥
Row_comes R x (suc n) (more t ts) = R x t × Row_comes R (suc x) n ts

-- t is made like that
abbrev pub Is_made : Shown → Form → Ty → Type 0
Is_made R form.Free t = (v : ℕ) × (t ≡ Var v)
Is_made R (form.Link j) t = ⊥
Is_made R (form.Made h x n) t = (ts : Tys) × (t ≡ Made h ts) × Row_comes R x n ts
Is_made R (form.Open e n) t = (v : ℕ) × (t ≡ Var v)

-- ---- what is read on the way

-- this is the root of node n, whatever stands for variables
pub record Is_root_of (nodes : List Node) (n : ℕ) (node : Node) : Type 0 where
  pub at : ℕ
  pub is : node ≡ node_at nodes at
  pub within : at < length nodes
  pub root : IsRoot (node_at nodes at).form
  pub reads : (s : Sub) (t : Ty) → Reads s nodes n t → Reads s nodes at t

-- the form of a type that is left undetermined, with its default
abbrev pub free_default : Kind → Form
free_default kind.Any = form.Free
free_default kind.Data = form.Free
free_default kind.Equal = form.Free
free_default kind.Scalar = form.Free
free_default kind.Integer = form.Made (head.Scalar (scalar.Int int.I32)) 0 0

abbrev pub default_form : Kind → Form → Form
default_form k form.Free = free_default k
default_form k (form.Link j) = form.Link j
default_form k (form.Made h x n) = form.Made h x n
default_form k (form.Open e n) = form.Open e n
