-- Types as a graph: what the nodes say about the types that stand for them.
use Rattle.std.specs.Prelude.{◌≡◌, ◌≢◌, ℕ, zero, suc, ◌+◌, ◌-◌, ◌*◌, ◌<◌, ◌≤◌, ◌^◌, List, [], ◌∷◌, ◌++◌, length}
use mathlib.Core.Logic.{◌⊎◌}
use Rattle.fut_types.specs.declared.Kind.{Kind}
use Rattle.fut_types.specs.declared.Kind.TheVariants as kind
use Rattle.fut_types.specs.declared.shapes.ShapeTable.{ShapeTable}
use Rattle.fut_types.specs.Types.{Ty, Sub, Kinds, level, rank, row}
use Rattle.fut_types.specs.Shapes.{HasPart, IsKnown}
use Rattle.type_graph.specs.declared.Form.{Form}
use Rattle.type_graph.specs.declared.Form.TheVariants as form
use Rattle.type_graph.specs.declared.Node.{Node}
use Rattle.type_graph.specs.declared.Entry.{Entry}
use Rattle.type_graph.specs.declared.Task.{Task}
use Rattle.type_graph.specs.declared.Task.TheVariants as task
use Rattle.type_graph.specs.declared.UnifyErr.{UnifyErr}
use Rattle.type_graph.specs.declared.UnifyErr.TheVariants as err
pub use Rattle.type_graph.specs.Nodes.{far, free_node, Each, IsRoot, Reading, Tables, read, Plain, Readable, type_made, Parts_fit, Fitting, IsMaker, IsParameter, Told, Listed, Closed, children, parts_of, Names, Once}
unfoldable pub use Rattle.type_graph.specs.Nodes.{node_at, with_node, entry_at, numbers, chained, All_named, Lacks, Distinct}
use Rattle.type_graph.specs.State.{Tops, State, Backed}

-- what a node's form says of its type, where a gives the types of all nodes
abbrev pub Shows : Tables → Sub → Ty → Form → Type 0
Shows T a t form.Free = Unit {0}
Shows T a t (form.Link j) = t ≡ a j
Shows T a t (form.Made h first count) = t ≡ type_made T.rigid h (row a first count)
Shows T a t (form.Open e count) = Names T a t e count

-- t is a type of the node's form and kind; K has the kinds of the variables in these types
pub record Fits (T : Tables) (K : Kinds) (a : Sub) (t : Ty) (node : Node) : Type 0 where
  pub shows : Shows T a t node.form
  pub has : level node.kind ≤ rank K t

-- a gives each node a type of its form and of its kind
pub record Solves (T : Tables) (K : Kinds) (a : Sub) (nodes : List Node) : Type 0 where
  pub fits : (i : ℕ) → i < length nodes → Fits T K a (a i) (node_at nodes i)

-- what is still to be brought about; a level asks nothing of the types
unfoldable pub Holds : Tables → Kinds → Sub → Task → Type 0
Holds T K a (task.Same i j) = a i ≡ a j
Holds T K a (task.Has i k l) = level k ≤ rank K (a i)
Holds T K a (task.Part i label c) = HasPart T.shapes label (a i) (a c)

pub record Meets (T : Tables) (nodes : List Node) (tasks : List Task) (K : Kinds) (a : Sub) : Type 0 where
  pub solves : Solves T K a nodes
  pub holds : Each (Holds T K a) tasks

-- the solutions of all readings
abbrev pub Meeting : Tables → List Node → List Task → Reading → Kinds → Sub → Type 0
Meeting T nodes tasks r K a = Meets (read T r) nodes tasks K a

-- well-formed: a link goes down, all others within; a level is a number of 32 bits
abbrev pub Within : ℕ → ℕ → Form → Type 0
Within n i form.Free = Unit {0}
Within n i (form.Link j) = j < i
Within n i (form.Made h first count) = first + count ≤ n
Within n i (form.Open e count) = 0 < count

pub record IsGraph (nodes : List Node) : Type 0 where
  pub short : length nodes < 2 ^ 32
  pub within : (i : ℕ) → i < length nodes → Within (length nodes) i (node_at nodes i).form
  pub fitting : (i : ℕ) → i < length nodes → Fitting (node_at nodes i).form
  pub near : (i : ℕ) → i < length nodes → (node_at nodes i).level ≤ far

-- within the tables: m entries are known
abbrev pub Bound : ShapeTable → ℕ → Form → Type 0
Bound table m form.Free = Unit {0}
Bound table m (form.Link j) = Unit {0}
Bound table m (form.Made h first count) = IsKnown table h
Bound table m (form.Open e count) = (e < m) × (count ≤ m)

pub record IsBound (table : ShapeTable) (m : ℕ) (nodes : List Node) : Type 0 where
  pub forms : (i : ℕ) → i < length nodes → Bound table m (node_at nodes i).form

abbrev pub IsEntry : ShapeTable → ℕ → ℕ → Entry → Type 0
IsEntry table n m entry = (entry.child < n) × (entry.label < length table.positions) × (entry.next < m)

pub record AreEntries (table : ShapeTable) (n : ℕ) (entries : List Entry) : Type 0 where
  pub within : (e : ℕ) → e < length entries → IsEntry table n (length entries) (entry_at entries e)

-- entries are added, and all stand where they stood
pub record Grows (table : ShapeTable) (n : ℕ) (entries entries' : List Entry) : Type 0 where
  pub are : AreEntries table n entries'
  pub more : length entries ≤ length entries'
  pub stay : (e : ℕ) → e < length entries → entry_at entries' e ≡ entry_at entries e

-- a task's numbers are within
unfoldable pub IsTask : ShapeTable → ℕ → Task → Type 0
IsTask table n (task.Same i j) = (i < n) × (j < n)
IsTask table n (task.Has i k l) = i < n
IsTask table n (task.Part i label c) = (i < n) × (c < n) × (label < length table.positions)

-- the work that is left: r nodes are no links
abbrev pub arity : Form → ℕ
arity form.Free = 0
arity (form.Link j) = 0
arity (form.Made h first count) = count
arity (form.Open e count) = count

abbrev pub one_root : Form → ℕ
one_root form.Free = 1
one_root (form.Link j) = 0
one_root (form.Made h first count) = 1
one_root (form.Open e count) = 1

abbrev pub is_root : Node → ℕ
is_root node = one_root node.form

-- more than a note may fall
abbrev pub depth : ℕ
depth = 4294967303

abbrev pub node_weight : ℕ → Node → ℕ
node_weight r node = arity node.form * (depth * r + (5 - level node.kind + node.level))

abbrev pub task_weight : ℕ → Task → ℕ
task_weight r (task.Same i j) = 2
task_weight r (task.Has i k l) = 1
task_weight r (task.Part i label c) = depth * r + 4294967302

unfoldable pub total : {X : Type 0} → (X → ℕ) → List X → ℕ
total f [] = 0
total f (x ∷ xs) = f x + total f xs

abbrev pub roots : List Node → ℕ
roots nodes = total is_root nodes

abbrev pub weigh : List Node → List Task → ℕ
weigh nodes tasks = total (node_weight (roots nodes)) nodes + total (task_weight (roots nodes)) tasks

pub record Found (nodes : List Node) (start root : ℕ) : Type 0 where
  pub within : root < length nodes
  pub is_root : IsRoot (node_at nodes root).form
  pub same : (T : Tables) (K : Kinds) (a : Sub) → Solves T K a nodes → a start ≡ a root
  pub tops : (top : ℕ → ℕ) → Tops nodes top → top start ≡ root

-- the same nodes, but for links that skip links
pub record Like (nodes nodes' : List Node) : Type 0 where
  pub graph : IsGraph nodes'
  pub long : length nodes' ≡ length nodes
  pub bound : (table : ShapeTable) (m : ℕ) → IsBound table m nodes → IsBound table m nodes'
  pub roots : total is_root nodes' ≡ total is_root nodes
  pub weight : (r : ℕ) → total (node_weight r) nodes' ≡ total (node_weight r) nodes
  pub kinds : (i : ℕ) → (node_at nodes' i).kind ≡ (node_at nodes i).kind
  pub levels : (i : ℕ) → (node_at nodes' i).level ≡ (node_at nodes i).level
  pub roots_are : (i : ℕ) → IsRoot (node_at nodes i).form → node_at nodes' i ≡ node_at nodes i
  pub are_roots : (i : ℕ) → IsRoot (node_at nodes' i).form → node_at nodes' i ≡ node_at nodes i
  pub links : (i j : ℕ) → i < length nodes → (node_at nodes' i).form ≡ form.Link j → (k : ℕ) × ((node_at nodes i).form ≡ form.Link k)
  pub forth : (T : Tables) (K : Kinds) (a : Sub) → Solves T K a nodes → Solves T K a nodes'
  pub back : (T : Tables) (K : Kinds) (a : Sub) → Solves T K a nodes' → Solves T K a nodes
  pub tops : (top : ℕ → ℕ) → Tops nodes top → Tops nodes' top
  pub tops_back : (top : ℕ → ℕ) → Tops nodes' top → Tops nodes top

-- what is done for a task: nodes' and what is added to the tasks have the same solutions, and the state is kept
pub record Reduces (table : ShapeTable) (m : ℕ) (T : Tables) (nodes : List Node) (task : Task) (nodes' : List Node) (added : List Task) : Type 0 where
  pub graph : IsGraph nodes'
  pub long : length nodes' ≡ length nodes
  pub bound : IsBound table m nodes → IsBound table m nodes'
  pub within : Each (IsTask table (length nodes)) added
  pub forth : (K : Kinds) (a : Sub) → Solves T K a nodes → Holds T K a task → Meets T nodes' added K a
  pub back : (K : Kinds) (a : Sub) → Meets T nodes' added K a → Solves T K a nodes
  pub done : (K : Kinds) (a : Sub) → Meets T nodes' added K a → Holds T K a task
  pub fewer : roots nodes' ≤ roots nodes
  pub less : weigh nodes' added < total (node_weight (roots nodes)) nodes + task_weight (roots nodes) task
  pub state : (home : ℕ → ℕ) (base : ℕ) (rest : List Task) → State T home base nodes (rest ++ task ∷ []) → State T home base nodes' (rest ++ added)
  pub backed : (home born : ℕ → ℕ) (rest : List Task) → Backed (Meeting T nodes (rest ++ task ∷ [])) home born nodes (rest ++ task ∷ []) → Backed (Meeting T nodes' (rest ++ added)) home born nodes' (rest ++ added)

pub record Does (table : ShapeTable) (m : ℕ) (T : Tables) (nodes : List Node) (tasks : List Task) (task : Task) (nodes' : List Node) (tasks' : List Task) : Type 0 where
  pub added : List Task
  pub is : tasks' ≡ tasks ++ added
  pub reduces : Reduces table m T nodes task nodes' added

abbrev pub link_to : ℕ → Node
link_to j = record { kind = kind.Any; level = far; form = form.Link j }

-- the loser is linked to the winner: what the winner was stands at the lower of the two
pub record Linked (nodes : List Node) (winner loser : ℕ) (nodes' : List Node) : Type 0 where
  pub graph : IsGraph nodes'
  pub long : length nodes' ≡ length nodes
  pub bound : (table : ShapeTable) (m : ℕ) → IsBound table m nodes → IsBound table m nodes'
  pub roots : total is_root nodes' + 1 ≡ total is_root nodes
  pub weight : (r : ℕ) → total (node_weight r) nodes' + node_weight r (node_at nodes loser) ≡ total (node_weight r) nodes
  pub forth : (T : Tables) (K : Kinds) (a : Sub) → Solves T K a nodes → a winner ≡ a loser → Solves T K a nodes'
  pub back : (T : Tables) (K : Kinds) (a : Sub) → Solves T K a nodes' → Fits T K a (a winner) (node_at nodes loser) → Solves T K a nodes
  pub same : (T : Tables) (K : Kinds) (a : Sub) → Solves T K a nodes' → a winner ≡ a loser
  pub keeps : (T : Tables) (K : Kinds) (a : Sub) → Solves T K a nodes' → Fits T K a (a winner) (node_at nodes winner)
  pub up : ℕ
  pub down : ℕ
  pub which : ((up ≡ winner) × (down ≡ loser)) ⊎ ((up ≡ loser) × (down ≡ winner))
  pub at_up : node_at nodes' up ≡ node_at nodes winner
  pub at_down : node_at nodes' down ≡ link_to up
  pub others : (i : ℕ) → i ≢ winner → i ≢ loser → node_at nodes' i ≡ node_at nodes i

-- where each type parameter stands for itself, no solution brings the task about
abbrev pub Refuses : Tables → List Node → Task → Type 0
Refuses T nodes task = Plain T → (K : Kinds) (a : Sub) → Solves T K a nodes → Holds T K a task → ⊥

-- the tasks that make two rows of nodes equal, give nodes a kind and a level, or give a node the parts of a chain
abbrev pub pairs : ℕ → ℕ → ℕ → List Task
pairs x y zero = []
pairs x y (suc count) = task.Same x y ∷ pairs (suc x) (suc y) count

unfoldable pub all_have : List ℕ → Kind → ℕ → List Task
all_have [] k l = []
all_have (c ∷ cs) k l = task.Has c k l ∷ all_have cs k l

unfoldable pub all_asked : (ℕ → Entry) → ℕ → ℕ → ℕ → List Task
all_asked entry i e zero = []
all_asked entry i e (suc count) = task.Part i (entry e).label (entry e).child ∷ all_asked entry i (entry e).next count

abbrev pub chain_tasks : Tables → ℕ → ℕ → ℕ → List Task
chain_tasks T i e count = all_asked T.entry i e count

-- a child of the chain has this label
abbrev pub IsNamed : Tables → ℕ → ℕ → ℕ → ℕ → Type 0
IsNamed T e count label c = (a : Sub) (t : Ty) → Names T a t e count → HasPart T.shapes label t (a c)

-- where the parts of a form are can be read
abbrev pub Starts : ℕ → Form → Type 0
Starts m form.Free = Unit {0}
Starts m (form.Link j) = Unit {0}
Starts m (form.Made h first count) = first + count < 2 ^ 32
Starts m (form.Open e count) = e < m

-- a root that has the parts of a chain, or none
abbrev pub Opens : Form → ℕ → ℕ → Type 0
Opens form.Free e count = count ≡ 0
Opens (form.Link j) e count = ⊥
Opens (form.Made h first n) e count = ⊥
Opens (form.Open start n) e count = (e ≡ start) × (count ≡ n)

-- memory aside, P is the reason of a refusal
abbrev pub Tells : Type 0 → UnifyErr → Type 0
Tells P (err.Clash i j) = P
Tells P (err.BadKind i k) = P
Tells P (err.Infinite i) = P
Tells P err.Memory = Unit {0}

-- the solutions of nodes' are those of nodes that meet the tasks
pub record Solved (T : Tables) (nodes : List Node) (tasks : List Task) (nodes' : List Node) : Type 0 where
  pub forth : (K : Kinds) (a : Sub) → Meets T nodes tasks K a → Solves T K a nodes'
  pub back : (K : Kinds) (a : Sub) → Solves T K a nodes' → Meets T nodes tasks K a
  pub state : (home : ℕ → ℕ) (base : ℕ) → State T home base nodes tasks → State T home base nodes' []
  pub backed : (home born : ℕ → ℕ) → Backed (Meeting T nodes tasks) home born nodes tasks → Backed (Meeting T nodes' []) home born nodes' []

-- nodes and entries are well-formed, and as many nodes as before
pub record Kept (table : ShapeTable) (nodes nodes' : List Node) (entries entries' : List Entry) : Type 0 where
  pub graph : IsGraph nodes'
  pub long : length nodes' ≡ length nodes
  pub bound : IsBound table (length entries') nodes'
  pub grows : Grows table (length nodes) entries entries'

-- where each type parameter stands for itself, no solution meets the tasks
abbrev pub Unmet : Tables → List Node → List Task → Type 0
Unmet T nodes tasks = Plain T → (K : Kinds) (a : Sub) → Meets T nodes tasks K a → ⊥
