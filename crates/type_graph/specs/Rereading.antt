-- Type parameters read otherwise: what that leaves of a solution.
use Rattle.std.specs.Prelude.{◌≡◌, ℕ, ◌<◌, ◌≤◌, List, [], length, Some}
use Rattle.fut_types.specs.declared.Kind.{Kind}
use Rattle.fut_types.specs.declared.Head.TheVariants as head
use Rattle.fut_types.specs.declared.shapes.ShapeTable.{ShapeTable}
use Rattle.fut_types.specs.Types.{Sub, Kinds}
use Rattle.fut_types.specs.Shapes.{Shapes}
use Rattle.type_graph.specs.declared.Form.TheVariants as form
use Rattle.type_graph.specs.declared.Node.{Node}
use Rattle.type_graph.specs.declared.Entry.{Entry}
use Rattle.type_graph.specs.Graph.{node_at, Reading, Tables, read, Readable, IsParameter, Told, Solves, IsGraph, IsBound, AreEntries}
use Rattle.type_graph.specs.State.{State, Agrees}

-- two labels below m name two positions in a tuple
pub record Apart (S : Shapes) (m : ℕ) : Type 0 where
  pub positions : (x y p : ℕ) → x < m → y < m → S.position x ≡ Some p → S.position y ≡ Some p → x ≡ y

-- r' reads the type parameters that have a node of level l or below as r does
pub record Keeps (nodes : List Node) (l : ℕ) (r r' : Reading) : Type 0 where
  pub keeps : (i n : ℕ) (k : Kind) (x c : ℕ) → i < length nodes → (node_at nodes i).form ≡ form.Made (head.Rigid n k) x c → (node_at nodes i).level ≤ l → r' n k ≡ r n k

-- what is made by type parameter n stands deeper than level l
abbrev pub Deeper : List Node → ℕ → ℕ → Type 0
Deeper nodes n l = (i : ℕ) → i < length nodes → IsParameter n (node_at nodes i).form → l < (node_at nodes i).level

-- the type that type parameter n stands for is left by what is fixed at level l: no two readings differ in it alone
abbrev pub Left : Tables → (ℕ → ℕ) → (ℕ → ℕ) → List Node → ℕ → ℕ → Kind → Type 0
Left T home born nodes l n k = (r : Reading) (K : Kinds) (a : Sub) (r' : Reading) (K' : Kinds) (a' : Sub) → Solves (read T r) K a nodes → Solves (read T r') K' a' nodes → Agrees home born l r a r' a' → r n k ≡ r' n k

-- a solution where type parameters are read as r', with the same types for what is fixed at level l
pub record Reread (T : Tables) (home : ℕ → ℕ) (base : ℕ) (nodes : List Node) (l : ℕ) (r' : Reading) (K : Kinds) (a : Sub) : Type 0 where
  pub other : Sub
  pub solves : Solves (read T r') K other nodes
  pub low : (i : ℕ) → i < length nodes → (node_at nodes i).level ≤ l → other i ≡ a i
  pub homes : (m : ℕ) → m < base → m < length nodes → home m ≤ l → other m ≡ a m

-- a solved graph has a solution for each reading by types of the parameters' kinds, if what is read otherwise is not fixed
-- at level l
abbrev pub Rereads : Type 0
Rereads = (table : ShapeTable) (entries : List Entry) (T : Tables) (home : ℕ → ℕ) (base : ℕ) (nodes : List Node)
    → IsGraph nodes → IsBound table (length entries) nodes → AreEntries table (length nodes) entries → Told table entries T → Apart T.shapes (length table.positions) → State T home base nodes []
    → (l : ℕ) (r' : Reading) → Keeps nodes l T.rigid r' → (K : Kinds) (a : Sub) → Readable K (read T r') → Solves T K a nodes → Reread T home base nodes l r' K a

-- node `at` stands for type parameter n in all readings
abbrev pub Bears_it : Tables → List Node → ℕ → ℕ → Kind → Type 0
Bears_it T nodes at n k = (r : Reading) (K : Kinds) (a : Sub) → Solves (read T r) K a nodes → a at ≡ r n k
