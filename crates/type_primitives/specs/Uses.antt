-- What a use of a primitive asks: each part of its written type that is no variable has a node of its own, and so have the
-- six variables.
use Rattle.std.specs.Prelude.{◌≡◌, ℕ, zero, suc, ◌+◌, List, [], ◌∷◌, ◌++◌}
use Rattle.fut_scalar.specs.declared.scalar.ScalarType.{ScalarType}
use Rattle.fut_flat.specs.declared.prim.Primitive.{Primitive}
use Rattle.fut_primitives.specs.Written.{Written, number, Variable, Scalar, Own, From, Array, Unique, Pair, Triple, Named, Function}
use Rattle.fut_primitives.specs.Table.{written, own_of, from_of}
use Rattle.fut_types.specs.declared.Kind.{Kind}
use Rattle.fut_types.specs.Types.{Ty, Sub, Kinds, HasKind, applied}
use Rattle.fut_typing.specs.Primitives.{prim_type}
use Rattle.type_rules.specs.declared.demand.Demand.{Demand}
use Rattle.type_rules.specs.declared.demand.Demand.TheVariants as demand

-- t is a type of a primitive, whose variables stand for types of what arrays may hold: that of a use (the definition of
-- typing has it as Used)
abbrev pub Of_primitive : Kind → Primitive → Kinds → Ty → Type 0
Of_primitive places p K t = (given : Sub) × ((n : ℕ) → HasKind K places (given n)) × (t ≡ applied given (prim_type p))

unfoldable pub variable_demands : Kind → ℕ → ℕ → List Demand
variable_demands places first zero = []
variable_demands places first (suc count) = demand.Has first places ∷ variable_demands places (first + 1) count

-- how many nodes of its own a type has
abbrev pub nodes : Written → ℕ
nodes (Variable x) = 0
nodes (Scalar s) = 1
nodes Own = 1
nodes From = 1
nodes (Array n t) = nodes t + 1
nodes (Unique t) = nodes t
nodes (Pair t u) = nodes t + nodes u + 1
nodes (Triple t u v) = nodes t + nodes u + nodes v + 1
nodes (Named n t) = nodes t
nodes (Function t u) = nodes t + nodes u + 1

module _ (first : ℕ) where
  -- the node of a type whose own nodes stand from this number on: that of the whole stands behind those of its parts
  abbrev pub node : ℕ → Written → ℕ
  node at (Variable x) = first + number x
  node at (Scalar s) = at
  node at Own = at
  node at From = at
  node at (Array n t) = at + nodes t
  node at (Unique t) = node at t
  node at (Pair t u) = at + nodes t + nodes u
  node at (Triple t u v) = at + nodes t + nodes u + nodes v
  node at (Named n t) = node at t
  node at (Function t u) = at + nodes t + nodes u

module _ (own from : ScalarType) (first : ℕ) where
  -- these demands, and those of a type behind them
  abbrev pub asked : List Demand → ℕ → Written → List Demand
  asked ds at (Variable x) = ds
  asked ds at (Scalar s) = ds ++ demand.Is at s ∷ []
  asked ds at Own = ds ++ demand.Is at own ∷ []
  asked ds at From = ds ++ demand.Is at from ∷ []
  asked ds at (Array n t) = asked ds at t ++ demand.Array (at + nodes t) (node first at t) ∷ []
  asked ds at (Unique t) = asked ds at t
  asked ds at (Pair t u) = asked (asked ds at t) (at + nodes t) u ++ demand.Pair (at + nodes t + nodes u) (node first at t) (node first (at + nodes t) u) ∷ []
  asked ds at (Triple t u v) =
      asked (asked (asked ds at t) (at + nodes t) u) (at + nodes t + nodes u) v
      ++ demand.Triple (at + nodes t + nodes u + nodes v) (node first at t) (node first (at + nodes t) u) (node first (at + nodes t + nodes u) v) ∷ []
  asked ds at (Named n t) = asked ds at t
  asked ds at (Function t u) = asked (asked ds at t) (at + nodes t) u ++ demand.Fun (at + nodes t + nodes u) (node first at t) (node first (at + nodes t) u) ∷ []

-- of the variables, the type behind them, and the use, which has the type of the whole
abbrev pub use_demands : Kind → ℕ → ℕ → Primitive → List Demand
use_demands places first id p = asked (own_of p) (from_of p) first (variable_demands places first 6) (first + 6) (written p) ++ demand.Same id (node first (first + 6) (written p)) ∷ []
