-- Registers: each name has a word. That of a scalar is its bits, and that of an array is its number among the arrays of the run.
use Rattle.std.specs.Prelude.{◌≡◌, ℕ, zero, suc, ◌+◌, ◌<◌, ◌≤◌, List, [], ◌∷◌, length, map, slice_get, Some}
use Rattle.fut_scalar.specs.declared.scalar.Scalar.{Scalar}
use Rattle.fut_scalar.specs.declared.scalar.ScalarType.{ScalarType}
use Rattle.fut_arithmetic.specs.Types.{type_of, IsOf}
use Rattle.fut_arithmetic.specs.Words.{word_of, scalar_of_word}
use Rattle.fut_value.specs.Leaves.{extent}
use Rattle.fut_blocks.specs.Meaning.{look}
use Rattle.core_arrays.specs.Arenas.{Array, Arena}
use Rattle.core_ir.specs.declared.block.Atom.{Atom}
use Rattle.core_ir.specs.declared.block.Atom.TheVariants as atom
use Rattle.core_ir.specs.Bundles.{Component, One, Many, Row}
use Rattle.core_ir.specs.Meaning.{Env}
use Rattle.core_ir.specs.Typed.{Sort, Sorts}

-- the arrays, the word of each name, and the words that have no names yet
pub record State : Type 0 where
  pub arena : Arena
  pub words : List ℕ
  pub stack : List ℕ

abbrev pub state : Arena → List ℕ → List ℕ → State
state a t s = record { arena = a; words = t; stack = s }

-- the type of an operand's elements
abbrev pub elem_of : Atom → ScalarType
elem_of (atom.Var x) = x.elem
elem_of (atom.Constant c) = type_of c

-- how many dimensions an operand has
abbrev pub rank_of : Atom → ℕ
rank_of (atom.Var x) = x.rank
rank_of (atom.Constant c) = 0

-- a word is the bits of a scalar
pub record ShowsScalar (t : ScalarType) (c : Component) (w : ℕ) : Type 0 where
  pub scalar : Scalar
  pub is : c ≡ One scalar
  pub typed : IsOf t scalar
  pub word : w ≡ word_of scalar

-- a word is the number of an array
pub record ShowsArray (rs : List Array) (t : ScalarType) (rank : ℕ) (c : Component) (w : ℕ) : Type 0 where
  pub array : Array
  pub there : slice_get rs w ≡ Some array
  pub is : c ≡ Many array.sizes (map (scalar_of_word t) array.words)
  pub deep : length array.sizes ≡ rank
  pub full : length array.words ≡ extent array.sizes

abbrev pub Shows_at : List Array → ScalarType → ℕ → Component → ℕ → Type 0
Shows_at rs t zero c w = ShowsScalar t c w
Shows_at rs t (suc r) c w = ShowsArray rs t (suc r) c w

-- a word stands for a component of a sort
abbrev pub Shows : List Array → Sort → Component → ℕ → Type 0
Shows rs s c w = Shows_at rs s.0 s.1 c w

-- each word for its component
pub data AllShow (rs : List Array) : List Sort → Row → List ℕ → Type 0 where
  none_shown : AllShow rs [] [] []
  shown_and : {s : Sort} {ss : List Sort} {c : Component} {cs : Row} {w : ℕ} {ws : List ℕ} → Shows rs s c w → AllShow rs ss cs ws → AllShow rs (s ∷ ss) (c ∷ cs) (w ∷ ws)

-- a name of a sort has a component and a word that stands for it
pub record Named (env : Env) (next : ℕ) (rs : List Array) (t : List ℕ) (x : ℕ) (s : Sort) : Type 0 where
  pub value : Component
  pub named : look env x ≡ Some value
  pub below : x < next
  pub word : ℕ
  pub there : slice_get t x ≡ Some word
  pub shows : Shows rs s value word

-- so have all names, whose numbers are below `next`
pub record Stands (G : Sorts) (env : Env) (next : ℕ) (rs : List Array) (t : List ℕ) : Type 0 where
  pub each : (x : ℕ) (s : Sort) → look G x ≡ Some s → Named env next rs t x s

-- the words of names below `next` and all old arrays are as before, and at most so many words were handed out
pub record Kept (next : ℕ) (S S' : State) (count : ℕ) : Type 0 where
  pub words : (x : ℕ) → x < next → slice_get S'.words x ≡ slice_get S.words x
  pub arrays : (i : ℕ) (a : Array) → slice_get S.arena.arrays i ≡ Some a → slice_get S'.arena.arrays i ≡ Some a
  pub handed : S'.arena.handed ≤ S.arena.handed + count
