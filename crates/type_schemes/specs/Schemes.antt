-- The type of a definition, copied part by part.
use Rattle.std.specs.Prelude.{◌≡◌, ℕ, zero, suc, ◌+◌, ◌<◌, ◌≤◌, List, [], ◌∷◌, ◌++◌, length, slice_index_or, slice_set}
use Rattle.std.specs.List.{Contains}
use mathlib.Core.Logic.{◌⊎◌}
use Rattle.fut_types.specs.declared.Kind.{Kind}
use Rattle.fut_types.specs.declared.Kind.TheVariants as kind
use Rattle.fut_types.specs.declared.Head.{Head}
use Rattle.fut_types.specs.declared.Head.TheVariants as head
use Rattle.fut_types.specs.declared.shapes.ShapeTable.{ShapeTable}
use Rattle.fut_types.specs.Shapes.{Shapes, HasPart, IsKnown}
use Rattle.fut_types.specs.Types.{Ty, Made, Sub, Kinds, level, rank, row}
use Rattle.type_graph.specs.declared.Form.{Form}
use Rattle.type_graph.specs.declared.Form.TheVariants as form
use Rattle.type_graph.specs.declared.Node.{Node}
use Rattle.type_graph.specs.declared.Entry.{Entry}
use Rattle.type_graph.specs.Graph.{node_at, entry_at, Reading, Tables, read, Listed, Solves, IsGraph, IsBound, AreEntries, IsRoot, IsMaker, IsParameter}
use Rattle.type_graph.specs.State.{Tops, State}
use Rattle.type_graph.specs.Rereading.{Apart}
use Rattle.type_schemes.specs.declared.PartForm.{PartForm}
use Rattle.type_schemes.specs.declared.PartForm.TheVariants as part
use Rattle.type_schemes.specs.declared.Part.{Part}

abbrev pub free_part : Part
free_part = record { kind = kind.Any; source = 0; label = 0; form = part.Free }

unfoldable pub part_at : List Part → ℕ → Part
part_at store k = slice_index_or store k free_part

unfoldable pub with_part : List Part → ℕ → Part → List Part
with_part store k p = slice_set store k p

unfoldable pub memo_at : List ℕ → ℕ → ℕ
memo_at memo v = slice_index_or memo v 0

unfoldable pub with_memo : List ℕ → ℕ → ℕ → List ℕ
with_memo memo v k = slice_set memo v k

-- a definition where it ends: the graph, the numbers of the type parameters that it writes, and the depth around it
pub record Definition : Type 0 where
  pub nodes : List Node
  pub entries : List Entry
  pub own : List ℕ
  pub depth : ℕ

abbrev pub definition : List Node → List Entry → List ℕ → ℕ → Definition
definition nodes entries own depth = record { nodes = nodes; entries = entries; own = own; depth = depth }

abbrev pub Entries : Type 0
Entries = List Entry

-- the parts of a form can be read, where n nodes and m entries are known
abbrev pub FormWithin : ℕ → ℕ → Form → Type 0
FormWithin n m form.Free = Unit {0}
FormWithin n m (form.Link j) = Unit {0}
FormWithin n m (form.Made h x c) = x + c ≤ n
FormWithin n m (form.Open e c) = e < m

-- a part that stands for a node of its own
abbrev pub Solid : PartForm → Type 0
Solid part.Free = Unit {0}
Solid (part.Shared j) = ⊥
Solid (part.Again m) = ⊥
Solid (part.Made h x n) = Unit {0}
Solid (part.Open x n) = Unit {0}

pub record Copied (store : List Part) (first end place source : ℕ) : Type 0 where
  pub from : first ≤ place
  pub to : place < end
  pub is : (part_at store place).source ≡ source
  pub solid : Solid (part_at store place).form

-- the type of a parameter of another definition; if it is that of a parameter, then of one of the definition's own
pub record IsForeign (own : List ℕ) (f : Form) : Type 0 where
  pub number : ℕ
  pub is : IsParameter number f
  pub other : Contains own number → ⊥

abbrev pub IsOurs : List ℕ → Form → Type 0
IsOurs own f = (n : ℕ) → IsParameter n f → Contains own n

-- the kind of a copy: a parameter's, else the one that is noted
abbrev pub head_kind : Kind → Head → Kind
head_kind k (head.Rigid n r) = r
head_kind k (head.Scalar s) = k
head_kind k head.Array = k
head_kind k head.Tuple = k
head_kind k (head.Record n) = k
head_kind k head.Fun = k
head_kind k (head.Abstract n d) = k

abbrev pub form_kind : Kind → Form → Kind
form_kind k form.Free = k
form_kind k (form.Link j) = k
form_kind k (form.Made h x n) = head_kind k h
form_kind k (form.Open e n) = k

abbrev pub copy_kind : Node → Kind
copy_kind node = form_kind node.kind node.form

-- a copy of a node of more than this depth
pub record IsNew (d : Definition) (memo : ℕ → ℕ) (k : ℕ) (p : Part) : Type 0 where
  pub root : IsRoot (node_at d.nodes p.source).form
  pub kind : p.kind ≡ copy_kind (node_at d.nodes p.source)
  pub deep : d.depth < (node_at d.nodes p.source).level
  pub ours : IsOurs d.own (node_at d.nodes p.source).form
  pub place : memo p.source ≡ k

-- the nodes i and j have one root
abbrev pub Alike : List Node → ℕ → ℕ → Type 0
Alike nodes i j = (top : ℕ → ℕ) → Tops nodes top → top i ≡ top j

-- the entry that comes i entries behind this one, and what it names
unfoldable pub chain : List Entry → ℕ → ℕ → ℕ
chain entries e zero = e
chain entries e (suc i) = (entry_at entries (chain entries e i)).next

abbrev pub child_at : List Entry → ℕ → ℕ → ℕ
child_at entries e i = (entry_at entries (chain entries e i)).child

abbrev pub label_at : List Entry → ℕ → ℕ → ℕ
label_at entries e i = (entry_at entries (chain entries e i)).label

abbrev pub next_to : ℕ → ℕ → ℕ
next_to x i = x + i

abbrev pub no_label : ℕ → ℕ
no_label i = 0

-- the parts in a row are those of these nodes, each under its label
pub record HasRow (nodes : List Node) (store : List Part) (first end x n : ℕ) (number label : ℕ → ℕ) : Type 0 where
  pub from : first ≤ x
  pub to : x + n ≤ end
  pub alike : (i : ℕ) → i < n → Alike nodes (part_at store (x + i)).source (number i)
  pub labels : (i : ℕ) → i < n → (part_at store (x + i)).label ≡ label i

pub record IsMade (d : Definition) (store : List Part) (first end : ℕ) (p : Part) (h : Head) (x n : ℕ) : Type 0 where
  pub built : IsMaker h
  pub row : ℕ
  pub form : (node_at d.nodes p.source).form ≡ form.Made h row n
  pub parts : HasRow d.nodes store first end x n (next_to row) no_label

pub record IsOpen (d : Definition) (store : List Part) (first end : ℕ) (p : Part) (x n : ℕ) : Type 0 where
  pub entry : ℕ
  pub within : entry < length d.entries
  pub form : (node_at d.nodes p.source).form ≡ form.Open entry n
  pub parts : HasRow d.nodes store first end x n (child_at d.entries entry) (label_at d.entries entry)

-- of which nothing is copied but the kind
abbrev pub IsLeaf : Form → Type 0
IsLeaf f = (f ≡ form.Free) ⊎ ((n : ℕ) × IsParameter n f)

-- the parts before `at` have their children
abbrev pub PartOk : Definition → List Part → ℕ → ℕ → (ℕ → ℕ) → ℕ → ℕ → Part → PartForm → Type 0
PartOk d store first end memo at k p part.Free = IsNew d memo k p × (k < at → IsLeaf (node_at d.nodes p.source).form)
PartOk d store first end memo at k p (part.Shared j) = (p.source ≡ j) × (((node_at d.nodes j).level ≤ d.depth) ⊎ IsForeign d.own (node_at d.nodes j).form) × IsRoot (node_at d.nodes j).form
PartOk d store first end memo at k p (part.Again m) = Copied store first k m p.source
PartOk d store first end memo at k p (part.Made h x n) = IsNew d memo k p × IsMade d store first end p h x n
PartOk d store first end memo at k p (part.Open x n) = IsNew d memo k p × IsOpen d store first end p x n

pub record Partial (d : Definition) (store : List Part) (first end : ℕ) (memo : ℕ → ℕ) (at : ℕ) : Type 0 where
  pub within : (k : ℕ) → first ≤ k → k < end → (part_at store k).source < length d.nodes
  pub light : (k : ℕ) → first ≤ k → k < end → (Solid (part_at store k).form → ⊥) → (part_at store k).kind ≡ kind.Any
  pub each : (k : ℕ) → first ≤ k → k < end → PartOk d store first end memo at k (part_at store k) (part_at store k).form

-- one part more
pub record Entered (d : Definition) (store : List Part) (memo : List ℕ) (first label number : ℕ) (store' : List Part) (memo' : List ℕ) : Type 0 where
  pub one : Part
  pub is : store' ≡ store ++ one ∷ []
  pub short : length store' < 4294967295
  pub lasts : length memo' ≡ length memo
  pub alike : Alike d.nodes one.source number
  pub named : one.label ≡ label
  pub keeps : (at : ℕ) → at ≤ length store → Partial d store first (length store) (memo_at memo) at → Partial d store' first (length store') (memo_at memo') at

abbrev pub Extends : List Part → List Part → Type 0
Extends store store' = (length store ≤ length store') × ((k : ℕ) → k < length store → part_at store' k ≡ part_at store k)

-- a row of parts more
pub record Opened (d : Definition) (store : List Part) (memo : List ℕ) (first : ℕ) (number label : ℕ → ℕ) (count : ℕ) (store' : List Part) (memo' : List ℕ) : Type 0 where
  pub extends : Extends store store'
  pub long : length store' ≡ length store + count
  pub short : length store < 4294967295 → length store' < 4294967295
  pub lasts : length memo' ≡ length memo
  pub alike : (i : ℕ) → i < count → Alike d.nodes (part_at store' (length store + i)).source (number i)
  pub labels : (i : ℕ) → i < count → (part_at store' (length store + i)).label ≡ label i
  pub keeps : (at : ℕ) → at ≤ length store → Partial d store first (length store) (memo_at memo) at → Partial d store' first (length store') (memo_at memo') at

-- the parts of a type of this form: how many, of which nodes, under which labels
abbrev pub head_count : Head → ℕ → ℕ
head_count (head.Rigid n k) c = 0
head_count (head.Scalar s) c = c
head_count head.Array c = c
head_count head.Tuple c = c
head_count (head.Record n) c = c
head_count head.Fun c = c
head_count (head.Abstract n d) c = c

abbrev pub child_count : Form → ℕ
child_count form.Free = 0
child_count (form.Link j) = 0
child_count (form.Made h x n) = head_count h n
child_count (form.Open e n) = n

abbrev pub child_number : List Entry → Form → ℕ → ℕ
child_number entries form.Free i = 0
child_number entries (form.Link j) i = 0
child_number entries (form.Made h x n) i = next_to x i
child_number entries (form.Open e n) i = child_at entries e i

abbrev pub child_label : List Entry → Form → ℕ → ℕ
child_label entries form.Free i = 0
child_label entries (form.Link j) i = 0
child_label entries (form.Made h x n) i = no_label i
child_label entries (form.Open e n) i = label_at entries e i

-- what a copy of such a type is, with its parts from x on
abbrev pub head_copy : Head → ℕ → ℕ → PartForm
head_copy (head.Rigid n k) x c = part.Free
head_copy (head.Scalar s) x c = part.Made (head.Scalar s) x c
head_copy head.Array x c = part.Made head.Array x c
head_copy head.Tuple x c = part.Made head.Tuple x c
head_copy (head.Record n) x c = part.Made (head.Record n) x c
head_copy head.Fun x c = part.Made head.Fun x c
head_copy (head.Abstract n d) x c = part.Made (head.Abstract n d) x c

abbrev pub form_copy : Form → ℕ → PartForm
form_copy form.Free x = part.Free
form_copy (form.Link j) x = part.Free
form_copy (form.Made h row n) x = head_copy h x n
form_copy (form.Open e n) x = part.Open x n

-- a part has got its children, or has none
pub record Filled (d : Definition) (store : List Part) (memo : List ℕ) (first at : ℕ) (store' : List Part) (memo' : List ℕ) : Type 0 where
  pub longer : length store ≤ length store'
  pub low : (k : ℕ) → k < first → part_at store' k ≡ part_at store k
  pub sources : (k : ℕ) → k < length store → (part_at store' k).source ≡ (part_at store k).source
  pub short : length store' < 4294967295
  pub lasts : length memo' ≡ length memo
  pub parts : Partial d store' first (length store') (memo_at memo') (at + 1)

-- the type of node `root` is copied from part `first` on
pub record Copies (d : Definition) (store : List Part) (first count root : ℕ) : Type 0 where
  pub some : 0 < count
  pub memo : ℕ → ℕ
  pub parts : Partial d store first (first + count) memo (first + count)
  pub starts : Alike d.nodes (part_at store first).source root

-- what a part says of its type, where full has the types of the graph and p those of the parts
abbrev pub PartShows : Shapes → List Part → Sub → Sub → Ty → PartForm → Type 0
PartShows S store full p t part.Free = Unit {0}
PartShows S store full p t (part.Shared j) = t ≡ full j
PartShows S store full p t (part.Again m) = t ≡ p m
PartShows S store full p t (part.Made h x n) = t ≡ Made h (row p x n)
PartShows S store full p t (part.Open x n) = (i : ℕ) → i < n → HasPart S (part_at store (x + i)).label t (p (x + i))

pub record PartFits (S : Shapes) (store : List Part) (K : Kinds) (full p : Sub) (t : Ty) (one : Part) : Type 0 where
  pub shows : PartShows S store full p t one.form
  pub has : level one.kind ≤ rank K t

abbrev pub PartsFit : Shapes → List Part → ℕ → ℕ → Kinds → Sub → Sub → Type 0
PartsFit S store first end K full p = (k : ℕ) → first ≤ k → k < end → PartFits S store K full p (p k) (part_at store k)

-- t is a type of the definition, where full has the types of the graph
pub record Instance (S : Shapes) (store : List Part) (first count : ℕ) (K : Kinds) (full : Sub) (t : Ty) : Type 0 where
  pub parts : Sub
  pub fits : PartsFit S store first (first + count) K full parts
  pub is : t ≡ parts first

-- r' reads all type parameters but these as r does
pub record ReadsElse (own : List ℕ) (r r' : Reading) : Type 0 where
  pub others : (n : ℕ) (k : Kind) → (Contains own n → ⊥) → r' n k ≡ r n k

-- r reads these type parameters as types of their kinds
abbrev pub Of_kinds : List ℕ → Kinds → Reading → Type 0
Of_kinds own K r = (n : ℕ) (k : Kind) → Contains own n → level k ≤ rank K (r n k)

-- t is a type that the node may have where types are chosen for the definition's own parameters, of their kinds, and what is
-- of the depth or below keeps its type
pub record Variant (T : Tables) (d : Definition) (root : ℕ) (K : Kinds) (full : Sub) (t : Ty) : Type 0 where
  pub reading : Reading
  pub alike : ReadsElse d.own T.rigid reading
  pub kinds : Of_kinds d.own K reading
  pub other : Sub
  pub solves : Solves (read T reading) K other d.nodes
  pub is : t ≡ other root
  pub low : (j : ℕ) → j < length d.nodes → IsRoot (node_at d.nodes j).form → (node_at d.nodes j).level ≤ d.depth → other j ≡ full j

-- the instances of a copy are the variants, and these keep the types of the program's nodes of the depth or below
pub record Exact (T : Tables) (home : ℕ → ℕ) (base : ℕ) (d : Definition) (store : List Part) (first count root : ℕ) : Type 0 where
  pub to : (K : Kinds) (full : Sub) (t : Ty) → Solves T K full d.nodes → Variant T d root K full t → Instance T.shapes store first count K full t
  pub from : (K : Kinds) (full : Sub) (t : Ty) → Of_kinds d.own K T.rigid → Solves T K full d.nodes → Instance T.shapes store first count K full t → Variant T d root K full t
  pub homes : (K : Kinds) (full : Sub) (t : Ty) → Solves T K full d.nodes → (v : Variant T d root K full t) → (m : ℕ) → m < base → home m ≤ d.depth → v.other m ≡ full m

abbrev pub Law : Type 0
Law = (table : ShapeTable) (T : Tables) (home : ℕ → ℕ) (base : ℕ) (d : Definition) (store : List Part) (first count root : ℕ)
    → IsGraph d.nodes → IsBound table (length d.entries) d.nodes → AreEntries table (length d.nodes) d.entries → Listed d.entries T → Apart T.shapes (length table.positions) → base ≤ length d.nodes → root < length d.nodes → State T home base d.nodes []
    → Copies d store first count root → Exact T home base d store first count root

abbrev pub PartWithin : ℕ → ℕ → ℕ → ℕ → PartForm → Type 0
PartWithin n first end k part.Free = Unit {0}
PartWithin n first end k (part.Shared j) = j < n
PartWithin n first end k (part.Again m) = (first ≤ m) × (m < end)
PartWithin n first end k (part.Made h x c) = (first ≤ x) × (x + c ≤ end) × IsMaker h
PartWithin n first end k (part.Open x c) = (first ≤ x) × (x + c ≤ end)

-- a row of parts that may be used
pub record Region (n : ℕ) (store : List Part) (first count : ℕ) : Type 0 where
  pub some : 0 < count
  pub within : first + count ≤ length store
  pub short : length store < 4294967295
  pub each : (k : ℕ) → first ≤ k → k < first + count → PartWithin n first (first + count) k (part_at store k).form

-- the records and labels in these parts are in the table
abbrev pub PartKnown : ShapeTable → List Part → PartForm → Type 0
PartKnown table store part.Free = Unit {0}
PartKnown table store (part.Shared j) = Unit {0}
PartKnown table store (part.Again m) = Unit {0}
PartKnown table store (part.Made h x c) = IsKnown table h
PartKnown table store (part.Open x c) = (i : ℕ) → i < c → (part_at store (x + i)).label < length table.positions

abbrev pub Known : ShapeTable → List Part → ℕ → ℕ → Type 0
Known table store first count = (k : ℕ) → first ≤ k → k < first + count → PartKnown table store (part_at store k).form
