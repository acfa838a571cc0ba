-- Substitutions, and what it is that one makes two types equal.
use Rattle.std.specs.Prelude.{◌≡◌, ◌≢◌, ℕ, ◌<◌, ◌≤◌, ◌^◌, List, [], ◌∷◌, length, slice_index_or, All, Any, AllPairs}
use Rattle.fut_types.specs.declared.Kind.TheVariants as kind
use Rattle.fut_types.specs.declared.shapes.ShapeTable.{ShapeTable}
use Rattle.fut_types.specs.Types.{Ty, Var, Made, Tys, none, more, Sub, Kinds, level, rank, applied}
use Rattle.fut_types.specs.Shapes.{Shapes, HasPart, IsKnown, Tells}
use Rattle.type_graph.specs.Graph.{IsMaker}
use Rattle.unify.specs.declared.Ty.{Ty as Tree, Ty-F, fold-Ty}
use Rattle.unify.specs.declared.Known.{Known}
use Rattle.unify.specs.declared.Subst.{Subst}

-- the type that a tree shows
abbrev pub row_of : List Ty → Tys
row_of [] = none
row_of (t ∷ ts) = more t (row_of ts)

abbrev pub layer : Ty-F Ty → Ty
layer (Ty-F.Var n) = Var n
layer (Ty-F.Made h parts) = Made h (row_of parts)

unfoldable pub type_of : Tree → Ty
type_of = fold-Ty Ty layer

-- what is known of a variable
abbrev pub nothing : Known
nothing = record { kind = kind.Any; parts = [] }

abbrev pub known_at : Subst → ℕ → Known
known_at s v = slice_index_or s.known v nothing

abbrev pub kinds_of : Subst → Kinds
kinds_of s v = (known_at s v).kind

-- P holds of each variable that stands in a type
unfoldable mutual
  pub Each_variable : (ℕ → Type 0) → Ty → Type 0
  Each_variable P (Var n) = P n
  Each_variable P (Made h ts) = All_variables P ts

  pub All_variables : (ℕ → Type 0) → Tys → Type 0
  All_variables P none = Unit {0}
  All_variables P (more t ts) = Each_variable P t × All_variables P ts

-- a type has the first m variables only, no type parameters, and its records are in the table
unfoldable mutual
  pub Within : ShapeTable → ℕ → Ty → Type 0
  Within table m (Var n) = n < m
  Within table m (Made h ts) = IsKnown table h × IsMaker h × All_within table m ts

  pub All_within : ShapeTable → ℕ → Tys → Type 0
  All_within table m none = Unit {0}
  All_within table m (more t ts) = Within table m t × All_within table m ts

-- parts, binds, and all that is known, have the first m variables only, and labels of the table
abbrev pub AreParts : ShapeTable → ℕ → List (ℕ × Tree) → Type 0
AreParts table m parts = All (λ p. (p.0 < length table.positions) × Within table m (type_of p.1)) parts

abbrev pub AreBinds : ShapeTable → ℕ → List (ℕ × Tree) → Type 0
AreBinds table m binds = All (λ b. (b.0 < m) × Within table m (type_of b.1)) binds

abbrev pub AreKnown : ShapeTable → ℕ → List Known → Type 0
AreKnown table m known = (v : ℕ) → v < length known → AreParts table m (slice_index_or known v nothing).parts

-- a variable may have the type t: it is of the variable's kind, and has the parts that are known of it
abbrev pub Has_parts : Shapes → Sub → Ty → List (ℕ × Tree) → Type 0
Has_parts S a t parts = All (λ p. HasPart S p.0 t (applied a (type_of p.1))) parts

pub record Suits (S : Shapes) (K : Kinds) (a : Sub) (t : Ty) (known : Known) : Type 0 where
  pub kind : level known.kind ≤ rank K t
  pub parts : Has_parts S a t known.parts

-- the first so many variables have such types
abbrev pub Suit_first : Shapes → Kinds → Sub → List Known → ℕ → Type 0
Suit_first S K a known count = (v : ℕ) → v < count → Suits S K a (a v) (slice_index_or known v nothing)

abbrev pub All_suit : Shapes → Kinds → Sub → List Known → Type 0
All_suit S K a known = Suit_first S K a known (length known)

abbrev pub Bound : Sub → List (ℕ × Tree) → Type 0
Bound a binds = All (λ b. a b.0 ≡ applied a (type_of b.1)) binds

-- types for variables that are as a substitution says
pub record Meets (S : Shapes) (s : Subst) (K : Kinds) (a : Sub) : Type 0 where
  pub suits : All_suit S K a s.known
  pub binds : Bound a s.binds

-- under the binds, which give variables these types, the type t has a part: if it is a variable, by what is known of it
abbrev pub Named : Shapes → Subst → Sub → Ty → ℕ → Ty → Type 0
Named S s types (Var v) label u = Any (λ p. (p.0 ≡ label) × (applied types (type_of p.1) ≡ u)) (known_at s v).parts
Named S s types (Made h ts) label u = HasPart S label (Made h ts) u

-- each variable has a kind and is bound once at most, none stands, through the binds, inside what it is bound to, and
-- what it is bound to is, under the binds, of its kind
pub record IsSolved (table : ShapeTable) (s : Subst) : Type 0 where
  pub short : length s.known < 2 ^ 32
  pub known : AreKnown table (length s.known) s.known
  pub binds : AreBinds table (length s.known) s.binds
  pub once : AllPairs (λ b c. b.0 ≢ c.0) s.binds
  pub order : ℕ → ℕ
  pub inside : All (λ b. Each_variable (λ v. order v < order b.0) (type_of b.1)) s.binds
  pub types : Sub
  pub bound : Bound types s.binds
  pub free : (v : ℕ) → All (λ b. b.0 ≢ v) s.binds → types v ≡ Var v
  pub kinds : All (λ b. level (known_at s b.0).kind ≤ rank (kinds_of s) (types b.0)) s.binds
  pub named : (S : Shapes) → Tells table S → All (λ b. All (λ p. Named S s types (types b.0) p.0 (applied types (type_of p.1))) (known_at s b.0).parts) s.binds

-- s' is a most general extension of s that makes both types equal, with variables of its own behind those of s: what meets
-- it meets s and makes them equal, and whatever does so can be carried on to the new variables
pub record Unifies (S : Shapes) (s : Subst) (left right : Ty) (s' : Subst) : Type 0 where
  pub longer : length s.known ≤ length s'.known
  pub forth : (K : Kinds) (a : Sub) → Meets S s K a → applied a left ≡ applied a right → (full : Sub) × ((v : ℕ) → v < length s.known → full v ≡ a v) × Meets S s' K full
  pub back : (K : Kinds) (a : Sub) → Meets S s' K a → Meets S s K a
  pub equal : (K : Kinds) (a : Sub) → Meets S s' K a → applied a left ≡ applied a right

-- there is none
abbrev pub Apart : Shapes → Subst → Ty → Ty → Type 0
Apart S s left right = (K : Kinds) (a : Sub) → Meets S s K a → applied a left ≡ applied a right → ⊥

-- Most general as it is usually said, where types are those that the binds give: whatever meets a substitution is an
-- instance of them, and they meet it themselves, unless named parts are known of a variable.
pub record General (S : Shapes) (s : Subst) (types : Sub) : Type 0 where
  pub instances : (K : Kinds) (a : Sub) → Meets S s K a → (v : ℕ) → a v ≡ applied a (types v)
  pub itself : ((v : ℕ) → v < length s.known → (known_at s v).parts ≡ []) → Meets S s (kinds_of s) types

abbrev pub Generals : Type 0
Generals = (table : ShapeTable) (S : Shapes) (s : Subst) (solved : IsSolved table s) → General S s solved.types
