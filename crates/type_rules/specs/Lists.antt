-- What the rules with any number of parts demand.
use Rattle.std.specs.Prelude.{ℕ, ◌+◌, List, [], ◌∷◌}
use Rattle.fut_scalar.specs.declared.scalar.ScalarType.TheVariants as scalar
use Rattle.fut_scalar.specs.declared.scalar.IntType.TheVariants as int
use Rattle.fut_flat.specs.declared.act.Part.{Part}
use Rattle.fut_flat.specs.declared.act.Part.TheVariants as part
use Rattle.fut_types.specs.declared.Kind.{Kind}
use Rattle.type_rules.specs.declared.demand.Demand.{Demand}
use Rattle.type_rules.specs.declared.demand.Demand.TheVariants as demand

-- each has the type of one node
unfoldable pub all_same : ℕ → List ℕ → List Demand
all_same e [] = []
all_same e (p ∷ ps) = demand.Same p e ∷ all_same e ps

unfoldable pub all_sizes : List ℕ → List Demand
all_sizes [] = []
all_sizes (p ∷ ps) = demand.Is p (scalar.Int int.I64) ∷ all_sizes ps

-- what is left of a dimension: its elements, or an array of such
abbrev pub left_demand : Part → ℕ → ℕ → Demand
left_demand part.At t u = demand.Same t u
left_demand (part.Slice from to) t u = demand.Array t u
left_demand part.Backwards t u = demand.Array t u

-- an array, its elements, their elements .. from node x on; what each index leaves from node t on
unfoldable pub index_demands : Kind → List Part → ℕ → ℕ → List Demand
index_demands places [] x t = demand.Same t x ∷ []
index_demands places (p ∷ ps) x t = demand.Array x (x + 1) ∷ demand.Has (x + 1) places ∷ left_demand p t (t + 1) ∷ index_demands places ps (x + 1) (t + 1)

-- an array, its elements, .. from node x on; the indices and the new element
unfoldable pub update_demands : Kind → List ℕ → ℕ → List Demand
update_demands places [] x = []
update_demands places (v ∷ []) x = demand.Same v x ∷ []
update_demands places (i ∷ v ∷ vs) x = demand.Is i (scalar.Int int.I64) ∷ demand.Array x (x + 1) ∷ demand.Has (x + 1) places ∷ update_demands places (v ∷ vs) (x + 1)

-- the type of a function of parameters is node x, that of what is left behind the first of them the next, ..
unfoldable pub function_demands : List ℕ → ℕ → ℕ → List Demand
function_demands [] body x = demand.Same x body ∷ []
function_demands (p ∷ ps) body x = demand.Fun x p (x + 1) ∷ function_demands ps body (x + 1)
