-- Nodes by number, and the named parts that are known of a type.
use Rattle.std.specs.Prelude.{◌≡◌, ◌≢◌, ℕ, zero, suc, ◌<◌, ◌≤◌, List, [], ◌∷◌, length, slice_set, slice_index_or}
use Rattle.fut_types.specs.declared.Kind.{Kind}
use Rattle.fut_types.specs.declared.Kind.TheVariants as kind
use Rattle.fut_types.specs.declared.Head.{Head}
use Rattle.fut_types.specs.declared.Head.TheVariants as head
use Rattle.fut_types.specs.declared.shapes.ShapeTable.{ShapeTable}
use Rattle.fut_types.specs.Types.{Ty, Made, Tys, none, Sub, Kinds, level, rank}
use Rattle.fut_types.specs.Shapes.{Shapes, HasPart, Tells}
use Rattle.type_graph.specs.declared.Form.{Form}
use Rattle.type_graph.specs.declared.Form.TheVariants as form
use Rattle.type_graph.specs.declared.Node.{Node}
use Rattle.type_graph.specs.declared.Entry.{Entry}

-- the level of what nothing outside has touched
abbrev pub far : ℕ
far = 4294967295

abbrev pub free_node : Node
free_node = record { kind = kind.Any; level = far; form = form.Free }

unfoldable pub node_at : List Node → ℕ → Node
node_at nodes i = slice_index_or nodes i free_node

unfoldable pub with_node : List Node → ℕ → Node → List Node
with_node nodes i node = slice_set nodes i node

abbrev pub Each : {X : Type 0} → (X → Type 0) → List X → Type 0
Each P [] = Unit {0}
Each P (x ∷ xs) = P x × Each P xs

abbrev pub IsRoot : Form → Type 0
IsRoot form.Free = Unit {0}
IsRoot (form.Link j) = ⊥
IsRoot (form.Made h x n) = Unit {0}
IsRoot (form.Open e n) = Unit {0}

-- how written type parameters are read: the type that each stands for, by its number and kind
abbrev pub Reading : Type 0
Reading = ℕ → Kind → Ty

-- what the program's labels mean, the entries of the named parts by their numbers, how type parameters are read, and the
-- node that each of them has
pub record Tables : Type 0 where
  pub shapes : Shapes
  pub entry : ℕ → Entry
  pub rigid : Reading
  pub seat : ℕ → ℕ

-- the same tables where type parameters are read like this
abbrev pub read : Tables → Reading → Tables
read T r = record { shapes = T.shapes; entry = T.entry; rigid = r; seat = T.seat }

-- each type parameter stands for itself
pub record Plain (T : Tables) : Type 0 where
  pub own : (n : ℕ) (k : Kind) → T.rigid n k ≡ Made (head.Rigid n k) none

-- each type parameter stands for a type of its kind
pub record Readable (K : Kinds) (T : Tables) : Type 0 where
  pub kinds : (n : ℕ) (k : Kind) → level k ≤ rank K (T.rigid n k)

-- the type that a head makes of parts: that of a type parameter is a matter of the reading
abbrev pub type_made : Reading → Head → Tys → Ty
type_made r (head.Rigid n k) ts = r n k
type_made r (head.Scalar s) ts = Made (head.Scalar s) ts
type_made r head.Array ts = Made head.Array ts
type_made r head.Tuple ts = Made head.Tuple ts
type_made r (head.Record n) ts = Made (head.Record n) ts
type_made r head.Fun ts = Made head.Fun ts
type_made r (head.Abstract n d) ts = Made (head.Abstract n d) ts

-- a type parameter has no parts
abbrev pub Parts_fit : Head → ℕ → Type 0
Parts_fit (head.Rigid n k) count = count ≡ 0
Parts_fit (head.Scalar s) count = Unit {0}
Parts_fit head.Array count = Unit {0}
Parts_fit head.Tuple count = Unit {0}
Parts_fit (head.Record n) count = Unit {0}
Parts_fit head.Fun count = Unit {0}
Parts_fit (head.Abstract n d) count = Unit {0}

abbrev pub Fitting : Form → Type 0
Fitting form.Free = Unit {0}
Fitting (form.Link j) = Unit {0}
Fitting (form.Made h first count) = Parts_fit h count
Fitting (form.Open e count) = Unit {0}

-- not the head of a type parameter
abbrev pub IsMaker : Head → Type 0
IsMaker (head.Rigid n k) = ⊥
IsMaker (head.Scalar s) = Unit {0}
IsMaker head.Array = Unit {0}
IsMaker head.Tuple = Unit {0}
IsMaker (head.Record n) = Unit {0}
IsMaker head.Fun = Unit {0}
IsMaker (head.Abstract n d) = Unit {0}

-- made by the type parameter of this number
abbrev pub IsParameter : ℕ → Form → Type 0
IsParameter n f = (k : Kind) × (first : ℕ) × (count : ℕ) × (f ≡ form.Made (head.Rigid n k) first count)

unfoldable pub entry_at : List Entry → ℕ → Entry
entry_at entries e = slice_index_or entries e (record { label = 0; child = 0; next = 0 })

-- T has these entries
abbrev pub Listed : List Entry → Tables → Type 0
Listed entries T = (e : ℕ) → e < length entries → T.entry e ≡ entry_at entries e

-- T is as the tables in hand say, as far as they go
pub record Told (table : ShapeTable) (entries : List Entry) (T : Tables) : Type 0 where
  pub shapes : Tells table T.shapes
  pub listed : Listed entries T

-- chains stay within the entries
abbrev pub Closed : List Entry → Type 0
Closed entries = (e : ℕ) → e < length entries → (entry_at entries e).next < length entries

-- the numbers of a row, and the children of a chain of named parts
unfoldable pub numbers : ℕ → ℕ → List ℕ
numbers first zero = []
numbers first (suc count) = first ∷ numbers (suc first) count

unfoldable pub chained : (ℕ → Entry) → ℕ → ℕ → List ℕ
chained entry e zero = []
chained entry e (suc count) = (entry e).child ∷ chained entry (entry e).next count

abbrev pub children : Tables → ℕ → ℕ → List ℕ
children T e count = chained T.entry e count

-- the nodes that stand for parts of a type of this form
abbrev pub parts_of : Tables → Form → List ℕ
parts_of T form.Free = []
parts_of T (form.Link j) = []
parts_of T (form.Made h first count) = numbers first count
parts_of T (form.Open e count) = children T e count

-- t has each part of a chain under its label, where a gives the types of all nodes
unfoldable pub All_named : Shapes → (ℕ → Entry) → Sub → Ty → ℕ → ℕ → Type 0
All_named S entry a t e zero = Unit {0}
All_named S entry a t e (suc count) = HasPart S (entry e).label t (a (entry e).child) × All_named S entry a t (entry e).next count

abbrev pub Names : Tables → Sub → Ty → ℕ → ℕ → Type 0
Names T a t e count = All_named T.shapes T.entry a t e count

-- a label does not stand in a chain; none stands there twice
unfoldable pub Lacks : (ℕ → Entry) → ℕ → ℕ → ℕ → Type 0
Lacks entry label e zero = Unit {0}
Lacks entry label e (suc count) = ((entry e).label ≢ label) × Lacks entry label (entry e).next count

unfoldable pub Distinct : (ℕ → Entry) → ℕ → ℕ → Type 0
Distinct entry e zero = Unit {0}
Distinct entry e (suc count) = Lacks entry (entry e).label (entry e).next count × Distinct entry (entry e).next count

abbrev pub Once : Tables → Form → Type 0
Once T form.Free = Unit {0}
Once T (form.Link j) = Unit {0}
Once T (form.Made h first count) = Unit {0}
Once T (form.Open e count) = Distinct T.entry e count
