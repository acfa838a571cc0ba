-- The type of a node, as far as the graph tells it.
use Rattle.std.specs.Prelude.{◌≡◌, ℕ, zero, suc, ◌+◌, ◌<◌, ◌≤◌, List, [], ◌∷◌, length, slice_index_or, slice_set}
use Rattle.fut_types.specs.Types.{Ty, Var, Made, Tys, none, more, Sub, Kinds, level, rank, applied, row}
use Rattle.type_graph.specs.declared.Form.{Form}
use Rattle.type_graph.specs.declared.Form.TheVariants as form
use Rattle.type_graph.specs.declared.Node.{Node}
use Rattle.fut_types.specs.declared.shapes.ShapeTable.{ShapeTable}
use Rattle.type_graph.specs.declared.Entry.{Entry}
use Rattle.type_graph.specs.Graph.{node_at, Reading, Tables, Plain, Readable, type_made, Listed, Each, parts_of, Names, Solves, IsGraph, IsBound, AreEntries}
use Rattle.type_graph.specs.State.{Tops, State}
use Rattle.type_graph.specs.declared.resolving.Mark.{Mark}
use Rattle.type_graph.specs.declared.resolving.Mark.TheVariants as mark

abbrev pub type_of : Sub → ℕ → Form → Ty
type_of s i form.Free = Var i
type_of s i (form.Link j) = s j
type_of s i (form.Made h x n) = Made h (row s x n)
type_of s i (form.Open e n) = Var i

-- a type where its variables have types and its type parameters are read
unfoldable mutual
  pub in_reading : Reading → Sub → Ty → Ty
  in_reading r a (Var n) = a n
  in_reading r a (Made h ts) = type_made r h (all_in_reading r a ts)

  pub all_in_reading : Reading → Sub → Tys → Tys
  all_in_reading r a none = none
  all_in_reading r a (more t ts) = more (in_reading r a t) (all_in_reading r a ts)

-- a node of which nothing is known, but for named parts
abbrev pub Loose : Form → Type 0
Loose form.Free = Unit {0}
Loose (form.Link j) = ⊥
Loose (form.Made h x n) = ⊥
Loose (form.Open e n) = Unit {0}

-- down to a depth
unfoldable pub resolved : List Node → ℕ → Sub
resolved nodes zero i = Var i
resolved nodes (suc d) i = type_of (resolved nodes d) i (node_at nodes i).form

-- node i has a type, the same from some depth on
pub record Settled (nodes : List Node) (i : ℕ) : Type 0 where
  pub type : Ty
  pub depth : ℕ
  pub settled : (d : ℕ) → depth ≤ d → resolved nodes d i ≡ type

abbrev pub SettledIn : List Node → ℕ → Type 0
SettledIn nodes i = (top : ℕ → ℕ) → Tops nodes top → Settled nodes i

-- node i has a height: its parts, named ones too, have smaller ones
unfoldable pub Founded : Tables → List Node → (ℕ → ℕ) → ℕ → ℕ → Type 0
Founded T nodes top zero i = ⊥
Founded T nodes top (suc h) i = Each (Founded T nodes top h) (parts_of T (node_at nodes (top i)).form)

abbrev pub FoundedIn : List Node → List Entry → ℕ → Type 0
FoundedIn nodes entries i = (T : Tables) → Listed entries T → (top : ℕ → ℕ) → Tops nodes top → (h : ℕ) × Founded T nodes top h i

abbrev pub Walked : List Node → List Entry → ℕ → Type 0
Walked nodes entries i = SettledIn nodes i × FoundedIn nodes entries i

-- from this depth on the types stay
abbrev pub Stable : List Node → ℕ → Type 0
Stable nodes D = (i : ℕ) → i < length nodes → (d : ℕ) → D ≤ d → resolved nodes d i ≡ resolved nodes D i

unfoldable pub mark_at : List Mark → ℕ → Mark
mark_at marks i = slice_index_or marks i mark.White

unfoldable pub with_mark : List Mark → ℕ → Mark → List Mark
with_mark marks i m = slice_set marks i m

abbrev pub white : Mark → ℕ
white mark.White = 1
white mark.Open = 0
white mark.Done = 0

unfoldable pub whites : List Mark → ℕ
whites [] = 0
whites (m ∷ ms) = white m + whites ms

-- whatever the labels mean, no types solve the graph
abbrev pub Unsolvable : List Node → List Entry → Type 0
Unsolvable nodes entries = (T : Tables) → Listed entries T → (K : Kinds) (a : Sub) → Solves T K a nodes → ⊥

-- nodes and entries are those of some table of records
pub record Placed (nodes : List Node) (entries : List Entry) : Type 0 where
  pub graph : IsGraph nodes
  pub table : ShapeTable
  pub are : AreEntries table (length nodes) entries
  pub bound : IsBound table (length entries) nodes

-- no node is open
abbrev pub Closed_form : Form → Type 0
Closed_form form.Free = Unit {0}
Closed_form (form.Link j) = Unit {0}
Closed_form (form.Made h x n) = Unit {0}
Closed_form (form.Open e n) = ⊥

abbrev pub NoneOpen : List Node → Type 0
NoneOpen nodes = (i : ℕ) → i < length nodes → Closed_form (node_at nodes i).form

-- the kinds that are noted
abbrev pub noted : List Node → Kinds
noted nodes v = (node_at nodes v).kind

-- g gives each variable a type of its kind
abbrev pub Respects : Kinds → Kinds → Sub → Type 0
Respects K0 K g = (v : ℕ) → level (K0 v) ≤ rank K (g v)

-- each open node has its named parts, where by gives types to the variables of s
abbrev pub OpensMet : Tables → List Node → Sub → Sub → Type 0
OpensMet T nodes s by = (i e n : ℕ) → i < length nodes → (node_at nodes i).form ≡ form.Open e n → Names T (λ j. in_reading T.rigid by (s j)) (in_reading T.rigid by (s i)) e n

-- the solutions are the instances of s that give its variables types of their kinds K0, and open nodes their parts;
-- where type parameters stand for themselves, instances put types for variables alone, and s is one if no node is open
pub record Resolved (T : Tables) (nodes : List Node) (K0 : Kinds) (s : Sub) : Type 0 where
  pub solves : Plain T → NoneOpen nodes → Solves T K0 s nodes
  pub instances : (K : Kinds) (by : Sub) → Readable K T → Respects K0 K by → OpensMet T nodes s by → Solves T K (λ i. in_reading T.rigid by (s i)) nodes
  pub factor : (K : Kinds) (a : Sub) → Solves T K a nodes → (i : ℕ) → i < length nodes → a i ≡ in_reading T.rigid a (s i)
  pub respects : (K : Kinds) (a : Sub) → Solves T K a nodes → Respects K0 K a
  pub plain : Plain T → (by : Sub) (i : ℕ) → i < length nodes → in_reading T.rigid by (s i) ≡ applied by (s i)

-- where each node has a type, the types are principal
abbrev pub Laws : Type 0
Laws = (T : Tables) (home : ℕ → ℕ) (base : ℕ) (nodes : List Node) → IsGraph nodes → State T home base nodes [] → ((i : ℕ) → i < length nodes → SettledIn nodes i) → (D : ℕ) × Resolved T nodes (noted nodes) (resolved nodes D)
