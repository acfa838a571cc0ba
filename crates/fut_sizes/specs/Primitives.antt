-- The sized types of the primitives, read off the language's table. A size that a parameter's type names is chosen by the
-- caller at the first arrow in whose parameter it stands; a named parameter is the value of its argument; what the result
-- leaves unknown is met at the last arrow.
use Rattle.std.specs.Prelude.{ℕ, suc, ◌+◌, Bool, true, false, ◌||◌, cond, List, [], ◌∷◌, ◌++◌, length, Option, Some, None}
use Rattle.fut_scalar.specs.declared.scalar.ScalarType.{ScalarType}
use Rattle.fut_flat.specs.declared.prim.Primitive.{Primitive}
use Rattle.fut_flat.specs.declared.prim.Primitive.TheVariants as prim
use Rattle.fut_primitives.specs.declared.written.Size.{Size as Letter}
use Rattle.fut_primitives.specs.declared.written.Size.TheVariants as size
use Rattle.fut_primitives.specs.Written.{Written, Variable, Scalar, Own, From, Array, Unique, Pair, Triple, Named, Function, number}
use Rattle.fut_primitives.specs.Table.{written, own_of, from_of}
use Rattle.fut_types.specs.declared.Head.TheVariants as head
use Rattle.sized_types.specs.Sizes.{Const, Dim, At, Bound, Inferred, Size, Hole, Level, Built, Fun, no_size, size_and, levels}

-- a sized type of the table, a scalar
abbrev pub scalar_size : ScalarType → Size
scalar_size s = Built (head.Scalar s) no_size

abbrev pub pair_size : Size → Size → Size
pair_size t u = Built head.Tuple (size_and t (size_and u no_size))

abbrev pub triple_size : Size → Size → Size → Size
triple_size t u v = Built head.Tuple (size_and t (size_and u (size_and v no_size)))

abbrev pub is_letter : Letter → Letter → Bool
is_letter size.N size.N = true
is_letter size.M size.M = true
is_letter size.K size.K = true
is_letter n m = false

-- the letters that each function type around binds, in the order of their positions, the nearest first
abbrev pub Frames : Type 0
Frames = List (List Letter)

abbrev pub next : Option ℕ → Option ℕ
next (Some i) = Some (suc i)
next None = None

abbrev pub place : Letter → List Letter → Option ℕ
place n [] = None
place n (m ∷ ms) = cond (is_letter n m) (Some 0) (next (place n ms))

abbrev pub bound_or : ℕ → Dim → Option ℕ → Dim
bound_or j deeper (Some i) = Bound j i
bound_or j deeper None = deeper

-- a letter that nothing binds stands nowhere in the table
abbrev pub letter_from : ℕ → Frames → Letter → Dim
letter_from j [] n = At (Const 0)
letter_from j (f ∷ φ) n = bound_or j (letter_from (suc j) φ n) (place n f)

-- `?` is met, at a position of its own
abbrev pub letter : Frames → ℕ → Letter → Dim
letter φ i size.Unknown = Bound 0 i
letter φ i n = letter_from 0 φ n

abbrev pub is_placed : Option ℕ → Bool
is_placed (Some i) = true
is_placed None = false

abbrev pub is_bound : Frames → Letter → Bool
is_bound [] n = false
is_bound (f ∷ φ) n = is_placed (place n f) || is_bound φ n

-- the letters of a parameter that no function type around it binds
abbrev pub with_letter : Bool → Letter → List Letter → List Letter
with_letter true n ns = ns
with_letter false n ns = n ∷ ns

abbrev pub chosen : Frames → Written → List Letter
chosen φ (Array n t) = with_letter (is_bound φ n) n (chosen ((n ∷ []) ∷ φ) t)
chosen φ (Unique t) = chosen φ t
chosen φ (Pair t u) = chosen φ t ++ chosen (chosen φ t ∷ φ) u
chosen φ (Triple t u v) = chosen φ t ++ (chosen (chosen φ t ∷ φ) u ++ chosen (chosen φ t ∷ chosen φ u ∷ φ) v)
chosen φ w = []

abbrev pub argument : Written → List Letter
argument (Named n t) = n ∷ []
argument w = []

-- as the member of one scalar type that converts from another, inside these function types; i is the position of the first
-- size that is met
unfoldable pub sized_type : ScalarType → ScalarType → Frames → ℕ → Written → Size
sized_type own from φ i (Variable x) = Hole (Inferred (number x))
sized_type own from φ i (Scalar s) = scalar_size s
sized_type own from φ i Own = scalar_size own
sized_type own from φ i From = scalar_size from
sized_type own from φ i (Array n t) = Level (letter φ i n) (sized_type own from φ (suc i) t)
sized_type own from φ i (Unique t) = sized_type own from φ i t
sized_type own from φ i (Pair t u) = pair_size (sized_type own from φ i t) (sized_type own from φ (levels (sized_type own from φ i t) + i) u)
sized_type own from φ i (Triple t u v) = triple_size (sized_type own from φ i t) (sized_type own from φ i u) (sized_type own from φ i v)
sized_type own from φ i (Named n t) = sized_type own from φ i t
sized_type own from φ i (Function t u) = Fun (length (chosen φ t)) (sized_type own from (chosen φ t ∷ φ) 0 t) (sized_type own from ((chosen φ t ++ argument t) ∷ φ) (suc (length (chosen φ t))) u)

unfoldable pub prim_size : Primitive → Size
prim_size p = sized_type (own_of p) (from_of p) [] 0 (written p)

-- the primitives whose function argument may give no array of a size that no name and no constant tells
abbrev pub is_regular : Primitive → Bool
is_regular prim.Map = true
is_regular prim.Map2 = true
is_regular prim.Map3 = true
is_regular prim.Map4 = true
is_regular prim.Map5 = true
is_regular prim.Tabulate = true
is_regular prim.Scan = true
is_regular prim.Reduce = true
is_regular prim.ReduceComm = true
is_regular prim.ReduceByIndex = true
is_regular p = false
