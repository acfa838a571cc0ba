-- A graph in which each node has a height has a solution for any types of its free nodes, of their kinds, if there are
-- records with all names.
use Rattle.std.specs.Prelude.{◌≡◌, ℕ, ◌<◌, ◌≤◌, List, [], length}
use Rattle.fut_types.specs.declared.shapes.ShapeTable.{ShapeTable}
use Rattle.fut_types.specs.Types.{Ty, Sub, Kinds, level, rank}
use Rattle.type_graph.specs.declared.Form.TheVariants as form
use Rattle.type_graph.specs.declared.Node.{Node}
use Rattle.type_graph.specs.declared.Entry.{Entry}
use Rattle.type_graph.specs.Graph.{node_at, Each, Tables, Readable, chained, All_named, Distinct, Told, Solves, IsGraph, IsBound, AreEntries}
use Rattle.type_graph.specs.State.{State}
use Rattle.type_graph.specs.Resolving.{FoundedIn}

-- for each chain in which no label stands twice there is a type that has its parts, and that has the kinds that they all
-- have, up to what == compares
pub record Rich (T : Tables) (last : ℕ) : Type 0 where
  pub pick : Sub → ℕ → ℕ → Ty
  pub same : (b c : Sub) (e n : ℕ) → Each (λ x. b x ≡ c x) (chained T.entry e n) → pick b e n ≡ pick c e n
  pub named : (b : Sub) (e n : ℕ) → 0 < n → e < last → Distinct T.entry e n → All_named T.shapes T.entry b (pick b e n) e n
  pub kinds : (b : Sub) (e n : ℕ) → 0 < n → e < last → Distinct T.entry e n → (K : Kinds) (k : ℕ) → k ≤ 2 → Each (λ c. k ≤ rank K (b c)) (chained T.entry e n) → k ≤ rank K (pick b e n)

-- by gives each free node a type of its kind
abbrev pub Suits_free : List Node → Kinds → Sub → Type 0
Suits_free nodes K by = (v : ℕ) → v < length nodes → (node_at nodes v).form ≡ form.Free → level (node_at nodes v).kind ≤ rank K (by v)

-- a solution with these types of free nodes
pub record Filled (T : Tables) (nodes : List Node) (K : Kinds) (by : Sub) : Type 0 where
  pub full : Sub
  pub solves : Solves T K full nodes
  pub free : (v : ℕ) → v < length nodes → (node_at nodes v).form ≡ form.Free → full v ≡ by v

abbrev pub Fills : Type 0
Fills = (table : ShapeTable) (entries : List Entry) (T : Tables) (home : ℕ → ℕ) (base : ℕ) (nodes : List Node)
    → IsGraph nodes → IsBound table (length entries) nodes → AreEntries table (length nodes) entries → Told table entries T → State T home base nodes [] → ((i : ℕ) → i < length nodes → FoundedIn nodes entries i) → Rich T (length entries)
    → (K : Kinds) (by : Sub) → Readable K T → Suits_free nodes K by → Filled T nodes K by
