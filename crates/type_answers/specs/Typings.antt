-- A graph of which nothing is left undetermined: its types are principal, and nothing is open in them.
use Rattle.std.specs.Prelude.{◌≡◌, ℕ, ◌<◌, ◌≤◌, List, [], length}
use Rattle.fut_types.specs.declared.shapes.ShapeTable.{ShapeTable}
use Rattle.fut_types.specs.Types.{Sub, Kinds}
use Rattle.fut_typing.specs.Answers.{Principal, IsWanted, Stands}
use Rattle.type_graph.specs.declared.Node.{Node}
use Rattle.type_graph.specs.declared.Entry.{Entry}
use Rattle.type_graph.specs.Graph.{Tables, Plain, Told, IsGraph, IsBound, AreEntries}
use Rattle.type_graph.specs.State.{State}
use Rattle.type_graph.specs.Resolving.{resolved, noted, Stable, SettledIn, FoundedIn}
use Rattle.type_graph.specs.Filling.{Rich}
use Rattle.type_graph.specs.Claims.{Possible}
use Rattle.type_answers.specs.Left.{Decided}

-- a graph that has been solved and has resolved
pub record Done (T : Tables) (home : ℕ → ℕ) (base : ℕ) (nodes : List Node) (entries : List Entry) : Type 0 where
  pub plain : Plain T
  pub graph : IsGraph nodes
  pub table : ShapeTable
  pub bound : IsBound table (length entries) nodes
  pub are : AreEntries table (length nodes) entries
  pub told : Told table entries T
  pub low : base ≤ length nodes
  pub state : State T home base nodes []
  pub settled : (i : ℕ) → i < length nodes → SettledIn nodes i
  pub founded : (i : ℕ) → i < length nodes → FoundedIn nodes entries i
  pub rich : Rich T (length entries)

pub record Closed (T : Tables) (base : ℕ) (nodes : List Node) : Type 0 where
  pub depth : ℕ
  pub stable : Stable nodes depth
  pub principal : Principal T.shapes base (λ K a. Possible T base K a nodes)
  pub kinds : principal.kinds ≡ noted nodes
  pub types : principal.types ≡ resolved nodes depth
  pub opens : principal.opens ≡ []
  pub known : (n v : ℕ) → n < base → Stands v (principal.types n) → IsWanted (principal.kinds v) → ⊥

-- it allows some types
abbrev pub Allows_some : Type 0
Allows_some = (T : Tables) (home : ℕ → ℕ) (base : ℕ) (nodes : List Node) (entries : List Entry) → Done T home base nodes entries → (K : Kinds) × (a : Sub) × Possible T base K a nodes

-- and where nothing that stands in the types of the program's numbers is undecided, these types are closed
abbrev pub Closes : Type 0
Closes = (T : Tables) (home : ℕ → ℕ) (base : ℕ) (nodes : List Node) (entries : List Entry) → Done T home base nodes entries → ((n : ℕ) → n < base → Decided nodes n) → Closed T base nodes
