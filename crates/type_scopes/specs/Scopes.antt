-- What is known where a part of a program is gone over, and what is known behind it.
use Rattle.std.specs.Prelude.{◌≡◌, ℕ, ◌+◌, ◌<◌, ◌≤◌, List, [], ◌++◌, length}
use mathlib.Core.Logic.{◌⊎◌}
use Rattle.fut_flat.specs.declared.pat.PatField.{PatField}
use Rattle.fut_flat.specs.Erased.{FlatPattern, pattern_of}
use Rattle.fut_types.specs.declared.Kind.{Kind}
use Rattle.fut_types.specs.declared.shapes.ShapeTable.{ShapeTable}
use Rattle.fut_types.specs.Types.{Ty, Made, none, Sub, Kinds}
use Rattle.fut_types.specs.declared.Head.{Head}
use Rattle.fut_types.specs.declared.Head.TheVariants as head
use Rattle.fut_types.specs.Shapes.{Shapes, IsTable, IsKnown}
use Rattle.fut_typing.specs.Names.{Names, AreNames}
use Rattle.fut_typing.specs.Primitives.{i64_ty}
use Rattle.fut_typing.specs.Scopes.{Uses, Scope}
use Rattle.fut_typing.specs.Homes.{Env, Needs, scope_of, At_home}
use Rattle.type_graph.specs.Graph.{far, Tables, Told, Plain, Solves, Meeting}
use Rattle.type_graph.specs.declared.Node.{Node}
use Rattle.type_graph.specs.State.{State, Backed}
use Rattle.type_graph.specs.Claims.{Sound, Possible}
use Rattle.type_rules.specs.Labels.{IsLabels, Labelled}
use Rattle.type_schemes.specs.declared.Part.{Part}
use Rattle.type_schemes.specs.Schemes.{Extends, Region, Known as KnownHeads, Instance}
use Rattle.type_scopes.specs.declared.names.Known.{Known}
use Rattle.type_scopes.specs.declared.names.Known.TheVariants as known
use Rattle.type_scopes.specs.declared.names.Past.{Past}
use Rattle.type_scopes.specs.declared.Inference.{Inference}
use Rattle.type_scopes.specs.Table.{IsSeated, known_at, seat_at, undone}

-- what a name stands for is there: a number of the program, of which there are base, a node, or parts of the store
abbrev pub Stored : ℕ → ℕ → ShapeTable → List Part → Known → Type 0
Stored base n table store known.Nothing = Unit {0}
Stored base n table store (known.Number p) = p < base
Stored base n table store known.Size = Unit {0}
Stored base n table store (known.Type p) = p < n
Stored base n table store (known.Definition first count) = Region n store first count × KnownHeads table store first count

-- well-formed, whatever the program means
pub record Safe (base : ℕ) (i : Inference) : Type 0 where
  pub table : IsTable i.table
  pub labels : IsLabels i.labels i.table
  pub sound : Sound i.table i.nodes i.entries
  pub inside : base ≤ length i.nodes
  pub short : length i.store < 4294967295
  pub stored : (b : ℕ) → b < length i.names → Stored base (length i.nodes) i.table i.store (known_at i.names b)

-- N gives names their numbers; N and T are as the tables in hand say; T.seat has the node of each type parameter that was
-- met, and born the depth of the definition that writes it
pub record Reads (i : Inference) (N : Names) (T : Tables) (born : ℕ → ℕ) : Type 0 where
  pub names : AreNames N
  pub labelled : Labelled i.labels i.table N
  pub shapes : T.shapes ≡ N.shapes
  pub told : Told i.table i.entries T
  pub seats : (n : ℕ) → IsSeated i.seats n → (T.seat n ≡ (seat_at i.seats n).node) × (born n ≡ (seat_at i.seats n).depth)

-- the types at which a name may be used of which this is known, and those that it stands for, where full gives the types of
-- all nodes
abbrev pub Usable : Shapes → List Part → Known → Kinds → Sub → Ty → Type 0
Usable S store known.Nothing K full t = ⊥
Usable S store (known.Number p) K full t = t ≡ full p
Usable S store known.Size K full t = t ≡ i64_ty
Usable S store (known.Type p) K full t = ⊥
Usable S store (known.Definition first count) K full t = Instance S store first count K full t

abbrev pub Denoted : Known → Sub → Ty → Type 0
Denoted known.Nothing full t = ⊥
Denoted (known.Number p) full t = ⊥
Denoted known.Size full t = ⊥
Denoted (known.Type p) full t = t ≡ full p
Denoted (known.Definition first count) full t = ⊥

-- what is known of a name tells its uses, and which type it stands for
pub record Means (S : Shapes) (store : List Part) (k : Known) (uses : Uses) (types : Ty → Type 0) (K : Kinds) (full : Sub) : Type 0 where
  pub usable : (t : Ty) → uses K full t → Usable S store k K full t
  pub used : (t : Ty) → Usable S store k K full t → uses K full t
  pub denoted : (t : Ty) → types t → Denoted k full t
  pub denotes : (t : Ty) → Denoted k full t → types t

-- the table of names is that of this scope, where full gives the types of all nodes
abbrev pub Knows : Shapes → Inference → Scope → Kinds → Sub → Type 0
Knows S i scope K full = (b : ℕ) → b < length i.names → Means S i.store (known_at i.names b) (scope.uses b) (scope.types b) K full

-- a part of a program, whose numbers begin at lo, may be gone over at depth d where E stands in scope; home gives each
-- number the depth of the definition in which it stands, and born each type parameter that of the definition that writes it
pub record Ready (N : Names) (places : Kind) (T : Tables) (home born : ℕ → ℕ) (base : ℕ) (E : Env) (d lo : ℕ) (i : Inference) : Type 0 where
  pub depth : d < far
  pub outer : (m : ℕ) → base ≤ m → far ≤ home m
  pub state : State T home base i.nodes []
  pub backed : Backed (Meeting T i.nodes []) home born i.nodes []
  pub plain : (n : ℕ) (k : Kind) → length i.nodes ≤ T.seat n → T.rigid n k ≡ Made (head.Rigid n k) none  -- a type parameter that was not met yet stands for itself
  pub narrow : (n : ℕ) → Needs E n → (n < lo) × (home n ≤ d)  -- uses depend on earlier numbers of this depth or less
  pub knows : (K : Kinds) (full : Sub) → Solves T K full i.nodes → Knows T.shapes i (scope_of N places E) K full
  pub below : (K : Kinds) (a b : Sub) → ((n : ℕ) → n < lo → a n ≡ b n) → Possible T base K a i.nodes → Possible T base K b i.nodes  -- nothing is asked yet of later numbers

-- the table of records and labels is as large or larger
pub record Wider (table table' : ShapeTable) : Type 0 where
  pub heads : (h : Head) → IsKnown table h → IsKnown table' h
  pub labels : length table.positions ≤ length table'.positions

-- nothing is lost: what can be read of i' can be read of i, and what solves the graph of i' solves that of i
pub record Later (base : ℕ) (i i' : Inference) : Type 0 where
  pub safe : Safe base i'
  pub reads : (N : Names) (T : Tables) (born : ℕ → ℕ) → Reads i' N T born → Reads i N T born
  pub seats : (n : ℕ) → IsSeated i.seats n → seat_at i'.seats n ≡ seat_at i.seats n
  pub keeps : (N : Names) (T : Tables) (born : ℕ → ℕ) → Reads i' N T born → (K : Kinds) (a : Sub) → Solves T K a i'.nodes → Solves T K a i.nodes
  pub longer : length i.nodes ≤ length i'.nodes
  pub store : Extends i.store i'.store
  pub names : length i'.names ≡ length i.names
  pub wider : Wider i.table i'.table

-- the same names as before; or more, which can be taken back
pub record Same (i i' : Inference) : Type 0 where
  pub names : i'.names ≡ i.names
  pub past : i'.past ≡ i.past

pub record More (i i' : Inference) : Type 0 where
  pub added : List Past
  pub past : i'.past ≡ i.past ++ added
  pub back : undone added i'.names ≡ i.names

-- what is claimed of types where names stand for these
abbrev pub Claim : Type 1
Claim = Names → Scope → Kinds → Sub → Type 0

abbrev pub Homes : Type 1
Homes = (ℕ → ℕ) → Type 0

-- nodes' allows what nodes allows and P holds of; levels keep their reasons where type parameters are born as born says, and
-- the homes are as H says
pub record Puts (T : Tables) (born : ℕ → ℕ) (base : ℕ) (P : Kinds → Sub → Type 0) (H : Homes) (nodes nodes' : List Node) : Type 0 where
  pub forth : (K : Kinds) (a : Sub) → Possible T base K a nodes → P K a → Possible T base K a nodes'
  pub back : (K : Kinds) (a : Sub) → Possible T base K a nodes' → Possible T base K a nodes
  pub done : (K : Kinds) (a : Sub) → Possible T base K a nodes' → P K a
  pub keeps : (K : Kinds) (a : Sub) → Solves T K a nodes' → Solves T K a nodes
  pub state : (home : ℕ → ℕ) → State T home base nodes [] → State T home base nodes' []
  pub backed : (home : ℕ → ℕ) → H home → Backed (Meeting T nodes []) home born nodes [] → Backed (Meeting T nodes' []) home born nodes' []

-- where each type parameter stands for itself, P holds of no types that nodes allows
abbrev pub NotPossible : Tables → ℕ → (Kinds → Sub → Type 0) → List Node → Type 0
NotPossible T base P nodes = Plain T → (K : Kinds) (a : Sub) → Possible T base K a nodes → P K a → ⊥

abbrev pub nothing_claimed : Claim
nothing_claimed N scope K a = Unit {0}

-- a part of a program is gone over: what it claims is put into the graph. Its numbers begin at lo, and have homes as H says
pub record Claimed (places : Kind) (base d lo : ℕ) (P : Claim) (H : Homes) (i i' : Inference) : Type 0 where
  pub later : Later base i i'
  pub same : Same i i'
  pub adds : (N : Names) (T : Tables) (home born : ℕ → ℕ) (E : Env) → Reads i' N T born → Ready N places T home born base E d lo i → H home → Puts T born base (P N (scope_of N places E)) H i.nodes i'.nodes

-- the same, and it binds names, which stand in scope from hi on
pub record Opened (places : Kind) (base d lo hi : ℕ) (P : Claim) (H : Homes) (into : Env → Env) (i i' : Inference) : Type 0 where
  pub later : Later base i i'
  pub more : More i i'
  pub adds : (N : Names) (T : Tables) (home born : ℕ → ℕ) (E : Env) → Reads i' N T born → Ready N places T home born base E d lo i → H home → Puts T born base (P N (scope_of N places E)) H i.nodes i'.nodes
  pub ready : (N : Names) (T : Tables) (home born : ℕ → ℕ) (E : Env) → Reads i' N T born → Ready N places T home born base E d lo i → H home → Ready N places T home born base (into E) d hi i'

-- what a part of a program claims holds of no types that the graph allows
pub record Refused (places : Kind) (base d lo : ℕ) (P : Claim) (H : Homes) (i i' : Inference) : Type 0 where
  pub labels : IsLabels i'.labels i'.table  -- so there is something that reads i'
  pub reads : (N : Names) (T : Tables) (born : ℕ → ℕ) → Reads i' N T born → Reads i N T born
  pub nowhere : (N : Names) (T : Tables) (home born : ℕ → ℕ) (E : Env) → Reads i' N T born → Ready N places T home born base E d lo i → H home → NotPossible T base (P N (scope_of N places E)) i.nodes

-- a claim depends on the types of the numbers from lo to hi, and of those that the names in scope need
abbrev pub Depends : Kind → Claim → ℕ → ℕ → Type 0
Depends places P lo hi = (N : Names) (E : Env) (K : Kinds) (a b : Sub) → ((n : ℕ) → Needs E n ⊎ ((lo ≤ n) × (n < hi)) → a n ≡ b n) → P N (scope_of N places E) K a → P N (scope_of N places E) K b

-- so many numbers from lo on are those of the names that are bound; nothing is claimed
abbrev pub Binds : ℕ → ℕ → ℕ → (Env → Env) → Inference → Inference → Type 0
Binds base lo many into i i' = (places : Kind) (d hi : ℕ) → lo + many ≤ hi → Opened places base d hi hi nothing_claimed (λ home. At_home home d lo many) into i i'

-- the pattern of a field
abbrev pub field_pattern : PatField → FlatPattern
field_pattern f = pattern_of f.pat

-- the depth of the innermost definition around that writes type parameters, which is this one or less
abbrev pub Around : ℕ → Type 0
Around d = (w : ℕ) × (w ≤ d)
