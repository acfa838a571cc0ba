-- One demand, by its variant.
use Rattle.std.proofs.Common.{◌≡◌, ℕ, ◌<◌, List, [], ◌∷◌, sym, subst, arith}
use mathlib.Core.Logic.{inr}
use Rattle.fut_scalar.specs.declared.scalar.ScalarType.{ScalarType}
use Rattle.fut_types.specs.declared.Kind.{Kind}
use Rattle.fut_types.specs.declared.Head.TheVariants as head
use Rattle.fut_types.specs.declared.shapes.ShapeTable.{ShapeTable}
use Rattle.fut_types.specs.Types.{Made}
use Rattle.fut_types.specs.Shapes.{IsKnown}
use Rattle.type_graph.specs.declared.Node.{Node}
use Rattle.type_graph.specs.declared.Task.TheVariants as task
use Rattle.type_graph.specs.Graph.{far, Tables, IsTask, Holds}
use Rattle.type_graph.specs.Claims.{types_of, Allowed, Adds, Nowhere}
use Rattle.type_rules.specs.declared.demand.Demand.{Demand}
use Rattle.type_rules.specs.declared.demand.Demand.TheVariants as demand
use Rattle.type_rules.specs.Demands.{Met, IsDemand, Allows}
use Rattle.type_rules.proofs.Adding.{adds_as}

-- a demand of which the variant is known
module _ (T : Tables) (base : ℕ) (d e : Demand) (is : d ≡ e) (n0 n1 : List Node) where
  adds_is : Adds T base (λ K a. Met T.shapes K a e) (λ home. Allows home e) n0 n1 → Adds T base (λ K a. Met T.shapes K a d) (λ home. Allows home d) n0 n1
  adds_is x = subst (λ z. Adds T base (λ K a. Met T.shapes K a z) (λ home. Allows home z) n0 n1) (sym is) x

  nowhere_is : Nowhere T base (λ K a. Met T.shapes K a e) n0 → Nowhere T base (λ K a. Met T.shapes K a d) n0
  nowhere_is x = subst (λ z. Nowhere T base (λ K a. Met T.shapes K a z) n0) (sym is) x

pub known_scalar : (table : ShapeTable) (s : ScalarType) → IsKnown table (head.Scalar s)
unfolding IsKnown
known_scalar table s = tt

pub known_array : (table : ShapeTable) → IsKnown table head.Array
unfolding IsKnown
known_array table = tt

pub known_fun : (table : ShapeTable) → IsKnown table head.Fun
unfolding IsKnown
known_fun table = tt

pub known_tuple : (table : ShapeTable) → IsKnown table head.Tuple
unfolding IsKnown
known_tuple table = tt

module _ (table : ShapeTable) (base : ℕ) (d : Demand) (w : IsDemand table base d) where
  pub same_within : (i j : ℕ) → d ≡ demand.Same i j → IsTask table base (task.Same i j)
  unfolding IsDemand IsTask
  same_within i j is = subst (IsDemand table base) is w

  pub has_within : (i : ℕ) (k : Kind) (l : ℕ) → d ≡ demand.Has i k → IsTask table base (task.Has i k l)
  unfolding IsDemand IsTask
  has_within i k l is = subst (IsDemand table base) is w

  pub is_within : (i : ℕ) (s : ScalarType) → d ≡ demand.Is i s → i < base
  unfolding IsDemand
  is_within i s is = subst (IsDemand table base) is w

  pub array_within : (i j : ℕ) → d ≡ demand.Array i j → (i < base) × (j < base)
  unfolding IsDemand
  array_within i j is = subst (IsDemand table base) is w

  pub fun_within : (i from to : ℕ) → d ≡ demand.Fun i from to → (i < base) × (from < base) × (to < base)
  unfolding IsDemand
  fun_within i from to is = subst (IsDemand table base) is w

  pub pair_within : (i x y : ℕ) → d ≡ demand.Pair i x y → (i < base) × (x < base) × (y < base)
  unfolding IsDemand
  pair_within i x y is = subst (IsDemand table base) is w

  pub triple_within : (i x y z : ℕ) → d ≡ demand.Triple i x y z → (i < base) × (x < base) × (y < base) × (z < base)
  unfolding IsDemand
  triple_within i x y z is = subst (IsDemand table base) is w

  pub part_within : (i label c : ℕ) → d ≡ demand.Part i label c → IsTask table base (task.Part i label c)
  unfolding IsDemand IsTask
  part_within i label c is = subst (IsDemand table base) is w

module _ (T : Tables) (base : ℕ) (d : Demand) (n0 n1 : List Node) where
  pub same_adds : (i j : ℕ) → d ≡ demand.Same i j → Adds T base (λ K a. Holds T K a (task.Same i j)) (λ home. Allowed home (task.Same i j)) n0 n1 → Adds T base (λ K a. Met T.shapes K a d) (λ home. Allows home d) n0 n1
  unfolding Met Holds Allows
  same_adds i j is x = adds_is T base d (demand.Same i j) is n0 n1 x

  pub same_nowhere : (i j : ℕ) → d ≡ demand.Same i j → Nowhere T base (λ K a. Holds T K a (task.Same i j)) n0 → Nowhere T base (λ K a. Met T.shapes K a d) n0
  unfolding Met Holds
  same_nowhere i j is x = nowhere_is T base d (demand.Same i j) is n0 n1 x

  pub has_adds : (i : ℕ) (k : Kind) → d ≡ demand.Has i k → Adds T base (λ K a. Holds T K a (task.Has i k far)) (λ home. Allowed home (task.Has i k far)) n0 n1 → Adds T base (λ K a. Met T.shapes K a d) (λ home. Allows home d) n0 n1
  unfolding Met Holds Allows
  has_adds i k is x = adds_is T base d (demand.Has i k) is n0 n1 (adds_as T base (λ K a. Holds T K a (task.Has i k far)) (λ K a. Met T.shapes K a (demand.Has i k)) (λ home. Allowed home (task.Has i k far)) (λ home. Allows home (demand.Has i k)) n0 n1 (λ K a h. h) (λ K a h. h) (λ home h. inr (omega arith)) x)

  pub has_nowhere : (i : ℕ) (k : Kind) → d ≡ demand.Has i k → Nowhere T base (λ K a. Holds T K a (task.Has i k far)) n0 → Nowhere T base (λ K a. Met T.shapes K a d) n0
  unfolding Met Holds
  has_nowhere i k is x = nowhere_is T base d (demand.Has i k) is n0 n1 x

  pub part_adds : (i label c : ℕ) → d ≡ demand.Part i label c → Adds T base (λ K a. Holds T K a (task.Part i label c)) (λ home. Allowed home (task.Part i label c)) n0 n1 → Adds T base (λ K a. Met T.shapes K a d) (λ home. Allows home d) n0 n1
  unfolding Met Holds Allows
  part_adds i label c is x = adds_is T base d (demand.Part i label c) is n0 n1 x

  pub part_nowhere : (i label c : ℕ) → d ≡ demand.Part i label c → Nowhere T base (λ K a. Holds T K a (task.Part i label c)) n0 → Nowhere T base (λ K a. Met T.shapes K a d) n0
  unfolding Met Holds
  part_nowhere i label c is x = nowhere_is T base d (demand.Part i label c) is n0 n1 x

  pub is_adds : (i : ℕ) (s : ScalarType) → d ≡ demand.Is i s → Adds T base (λ K a. a i ≡ Made (head.Scalar s) (types_of a [])) (λ home. Unit {0}) n0 n1 → Adds T base (λ K a. Met T.shapes K a d) (λ home. Allows home d) n0 n1
  unfolding Met Allows types_of
  is_adds i s is x = adds_is T base d (demand.Is i s) is n0 n1 x

  pub is_nowhere : (i : ℕ) (s : ScalarType) → d ≡ demand.Is i s → Nowhere T base (λ K a. a i ≡ Made (head.Scalar s) (types_of a [])) n0 → Nowhere T base (λ K a. Met T.shapes K a d) n0
  unfolding Met types_of
  is_nowhere i s is x = nowhere_is T base d (demand.Is i s) is n0 n1 x

  pub array_adds : (i j : ℕ) → d ≡ demand.Array i j → Adds T base (λ K a. a i ≡ Made head.Array (types_of a (j ∷ []))) (λ home. Unit {0}) n0 n1 → Adds T base (λ K a. Met T.shapes K a d) (λ home. Allows home d) n0 n1
  unfolding Met Allows types_of
  array_adds i j is x = adds_is T base d (demand.Array i j) is n0 n1 x

  pub array_nowhere : (i j : ℕ) → d ≡ demand.Array i j → Nowhere T base (λ K a. a i ≡ Made head.Array (types_of a (j ∷ []))) n0 → Nowhere T base (λ K a. Met T.shapes K a d) n0
  unfolding Met types_of
  array_nowhere i j is x = nowhere_is T base d (demand.Array i j) is n0 n1 x

  pub fun_adds : (i from to : ℕ) → d ≡ demand.Fun i from to → Adds T base (λ K a. a i ≡ Made head.Fun (types_of a (from ∷ to ∷ []))) (λ home. Unit {0}) n0 n1 → Adds T base (λ K a. Met T.shapes K a d) (λ home. Allows home d) n0 n1
  unfolding Met Allows types_of
  fun_adds i from to is x = adds_is T base d (demand.Fun i from to) is n0 n1 x

  pub fun_nowhere : (i from to : ℕ) → d ≡ demand.Fun i from to → Nowhere T base (λ K a. a i ≡ Made head.Fun (types_of a (from ∷ to ∷ []))) n0 → Nowhere T base (λ K a. Met T.shapes K a d) n0
  unfolding Met types_of
  fun_nowhere i from to is x = nowhere_is T base d (demand.Fun i from to) is n0 n1 x

  pub pair_adds : (i x y : ℕ) → d ≡ demand.Pair i x y → Adds T base (λ K a. a i ≡ Made head.Tuple (types_of a (x ∷ y ∷ []))) (λ home. Unit {0}) n0 n1 → Adds T base (λ K a. Met T.shapes K a d) (λ home. Allows home d) n0 n1
  unfolding Met Allows types_of
  pair_adds i x y is h = adds_is T base d (demand.Pair i x y) is n0 n1 h

  pub pair_nowhere : (i x y : ℕ) → d ≡ demand.Pair i x y → Nowhere T base (λ K a. a i ≡ Made head.Tuple (types_of a (x ∷ y ∷ []))) n0 → Nowhere T base (λ K a. Met T.shapes K a d) n0
  unfolding Met types_of
  pair_nowhere i x y is h = nowhere_is T base d (demand.Pair i x y) is n0 n1 h

  pub triple_adds : (i x y z : ℕ) → d ≡ demand.Triple i x y z → Adds T base (λ K a. a i ≡ Made head.Tuple (types_of a (x ∷ y ∷ z ∷ []))) (λ home. Unit {0}) n0 n1 → Adds T base (λ K a. Met T.shapes K a d) (λ home. Allows home d) n0 n1
  unfolding Met Allows types_of
  triple_adds i x y z is h = adds_is T base d (demand.Triple i x y z) is n0 n1 h

  pub triple_nowhere : (i x y z : ℕ) → d ≡ demand.Triple i x y z → Nowhere T base (λ K a. a i ≡ Made head.Tuple (types_of a (x ∷ y ∷ z ∷ []))) n0 → Nowhere T base (λ K a. Met T.shapes K a d) n0
  unfolding Met types_of
  triple_nowhere i x y z is h = nowhere_is T base d (demand.Triple i x y z) is n0 n1 h
