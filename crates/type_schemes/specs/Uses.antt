-- What is told of a definition where it ends: it is typed for every reading of its own type parameters; it is generalised if
-- none of them is fixed by what stands around it; and where its type has been copied, its uses are the instances of the copy.
use Rattle.std.specs.Prelude.{◌≡◌, ℕ, ◌+◌, ◌<◌, ◌≤◌, List, [], ◌∷◌, length}
use Rattle.std.specs.List.{Contains}
use mathlib.Core.Logic.{◌⊎◌}
use native.Mathlib.Decide.{ℕ_discrete}
use Rattle.fut_scalar.specs.declared.place.BindId.{BindId}
use Rattle.fut_flat.specs.Terms.{Parameter, Size_parameter, Type_parameter}
use Rattle.fut_flat.specs.Numbers.{numbers}
use Rattle.fut_flat.specs.Erased.{FlatTerm}
use Rattle.fut_types.specs.declared.Kind.{Kind}
use Rattle.fut_types.specs.declared.shapes.ShapeTable.{ShapeTable}
use Rattle.fut_types.specs.declared.Head.TheVariants as head
use Rattle.fut_types.specs.Types.{Ty, Var, Made, none, Sub, Kinds}
use Rattle.fut_typing.specs.Names.{Names}
use Rattle.fut_typing.specs.Scopes.{Uses}
use Rattle.fut_typing.specs.Free.{has_types}
use Rattle.fut_typing.specs.Generalised.{parameter_kind, Outside, Reused, Generalised}
use Rattle.fut_typing.specs.Homes.{Env, Needs, Homed, named_scheme, scope_of, written_if}
use Rattle.type_graph.specs.declared.Node.{Node}
use Rattle.type_graph.specs.Graph.{far, Reading, Tables, read, Told, Solves, Meeting, IsGraph, IsBound, AreEntries}
use Rattle.type_graph.specs.State.{State, Backed}
use Rattle.type_graph.specs.Claims.{Possible}
use Rattle.type_graph.specs.Rereading.{Apart, Deeper, Left}
use Rattle.type_schemes.specs.declared.Part.{Part}
use Rattle.type_schemes.specs.Schemes.{Definition, Copies, Instance, ReadsElse}

-- the numbers of the type parameters, each of which stands once
abbrev pub type_numbers : List (Parameter BindId) → List ℕ
type_numbers [] = []
type_numbers (Size_parameter b ∷ ps) = type_numbers ps
type_numbers (Type_parameter b lifted ∷ ps) = b.0 ∷ type_numbers ps

abbrev pub One_each : List (Parameter BindId) → Type 0
One_each [] = Unit {0}
One_each (Size_parameter b ∷ ps) = One_each ps
One_each (Type_parameter b lifted ∷ ps) = (Contains (type_numbers ps) b.0 → ⊥) × One_each ps

-- the types that a reading gives them
abbrev pub types_read : Kind → Reading → List (Parameter BindId) → Sub
types_read places r [] n = Var n
types_read places r (Size_parameter b ∷ ps) n = types_read places r ps n
types_read places r (Type_parameter b lifted ∷ ps) n = elim (ℕ_discrete n b.0) as (λ d. Ty) [ yes e ↦ r n (parameter_kind places lifted) | no ne ↦ types_read places r ps n ]

-- the uses u are the instances of a copy
pub record Means (T : Tables) (nodes : List Node) (store : List Part) (first count : ℕ) (u : Uses) : Type 0 where
  pub to : (K : Kinds) (full : Sub) (t : Ty) → Solves T K full nodes → u K full t → Instance T.shapes store first count K full t
  pub from : (K : Kinds) (full : Sub) (t : Ty) → Solves T K full nodes → Instance T.shapes store first count K full t → u K full t

-- a definition of a name, whose numbers begin at lo, at the depth 1 + d.depth, where it ends: T reads its own parameters as
-- types of their own; its typing has been asked for, for each reading that differs from T at these only; the graph was `before`
-- where it began
pub record Ended (N : Names) (places : Kind) (T : Tables) (home born : ℕ → ℕ) (base : ℕ) (before : List Node) (d : Definition) (b : BindId) (ps : List (Parameter BindId)) (v : FlatTerm) (lo : ℕ) (E : Env) : Type 0 where
  pub own : d.own ≡ type_numbers ps
  pub plain : (n : ℕ) (k : Kind) → Contains d.own n → T.rigid n k ≡ Made (head.Rigid n k) none
  pub once : One_each ps
  pub inside : lo + (1 + numbers v) ≤ base
  pub depth : d.depth < far
  pub outer : (n : ℕ) → base ≤ n → d.depth < home n
  pub later : (n : ℕ) → Contains d.own n → d.depth < born n
  pub here : home lo ≡ 1 + d.depth
  pub written : ℕ  -- the depth of the innermost definition around it that writes type parameters
  pub around : written ≤ d.depth
  pub homed : Homed home (1 + d.depth) (written_if (has_types ps) (1 + d.depth) written) v (1 + lo)
  pub narrow : (n : ℕ) → Needs E n → (n < lo) × (home n ≤ d.depth)
  -- nothing was asked of the definition's numbers and parameters before
  pub below : (r : Reading) → ReadsElse d.own T.rigid r → (K : Kinds) (a a' : Sub) → ((n : ℕ) → Outside (named_scheme N places b ps v lo (scope_of N places E)) n → a n ≡ a' n) → Possible T base K a before → Possible (read T r) base K a' before
  pub forth : (r : Reading) → ReadsElse d.own T.rigid r → (K : Kinds) (a : Sub) → Possible (read T r) base K a before → (named_scheme N places b ps v lo (scope_of N places E)).typed (types_read places r ps) K a → Possible (read T r) base K a d.nodes
  pub back : (K : Kinds) (a : Sub) → Possible T base K a d.nodes → Possible T base K a before
  pub done : (r : Reading) → ReadsElse d.own T.rigid r → (K : Kinds) (a : Sub) → Possible (read T r) base K a d.nodes → (named_scheme N places b ps v lo (scope_of N places E)).typed (types_read places r ps) K a
  pub state : State T home base d.nodes []
  pub backed : Backed (Meeting T d.nodes []) home born d.nodes []

-- n is one of the type parameters, and k its kind
abbrev pub IsOne : Kind → List (Parameter BindId) → ℕ → Kind → Type 0
IsOne places [] n k = ⊥
IsOne places (Size_parameter b ∷ ps) n k = IsOne places ps n k
IsOne places (Type_parameter b lifted ∷ ps) n k = ((n ≡ b.0) × (k ≡ parameter_kind places lifted)) ⊎ IsOne places ps n k

-- of a definition that has ended: its uses are the instances of its copy; what it leaves possible is what it is generalised
-- for, if none of its parameters is fixed at the depth around it, and it is generalised for nothing if one is
pub record Generalises (N : Names) (places : Kind) (T : Tables) (home born : ℕ → ℕ) (base : ℕ) (before : List Node) (d : Definition) (b : BindId) (ps : List (Parameter BindId)) (v : FlatTerm) (lo : ℕ) (E : Env) : Type 0 where
  pub uses : (store : List Part) (first count : ℕ) → Copies d store first count lo → Means T d.nodes store first count (Reused places (named_scheme N places b ps v lo (scope_of N places E)) lo)
  pub forth : (K : Kinds) (a : Sub) → Possible T base K a before → Generalised places (named_scheme N places b ps v lo (scope_of N places E)) K a → Possible T base K a d.nodes
  pub done : ((n : ℕ) → Contains d.own n → Deeper d.nodes n d.depth) → (K : Kinds) (a : Sub) → Possible T base K a d.nodes → Generalised places (named_scheme N places b ps v lo (scope_of N places E)) K a
  pub escapes : (n : ℕ) (k : Kind) → IsOne places ps n k → Left T home born d.nodes d.depth n k → (K : Kinds) (a : Sub) → Possible T base K a before → Generalised places (named_scheme N places b ps v lo (scope_of N places E)) K a → ⊥

abbrev pub Law : Type 0
Law = (N : Names) (places : Kind) (table : ShapeTable) (T : Tables) (home born : ℕ → ℕ) (base : ℕ) (before : List Node) (d : Definition) (b : BindId) (ps : List (Parameter BindId)) (v : FlatTerm) (lo : ℕ) (E : Env)
    → IsGraph d.nodes → IsBound table (length d.entries) d.nodes → AreEntries table (length d.nodes) d.entries → Told table d.entries T → Apart T.shapes (length table.positions) → base ≤ length d.nodes
    → Ended N places T home born base before d b ps v lo E → Generalises N places T home born base before d b ps v lo E
