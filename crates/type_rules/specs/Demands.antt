-- What a rule demands of the types of a program's nodes, one demand at a time.
use Rattle.std.specs.Prelude.{◌≡◌, ℕ, ◌<◌, List, [], ◌∷◌, length}
use Rattle.fut_types.specs.declared.Kind.TheVariants as kind
use Rattle.fut_types.specs.declared.shapes.ShapeTable.{ShapeTable}
use Rattle.fut_types.specs.Types.{Ty, Sub, Kinds, HasKind, scalar_ty, fun_ty}
use Rattle.fut_types.specs.Shapes.{Shapes, HasPart}
use Rattle.fut_typing.specs.Primitives.{array_ty, pair_ty, triple_ty, bool_ty}
use Rattle.type_rules.specs.declared.demand.Demand.{Demand}
use Rattle.type_rules.specs.declared.demand.Demand.TheVariants as demand
use Rattle.type_rules.specs.declared.operators.Class.{Class}
use Rattle.type_rules.specs.declared.operators.Class.TheVariants as class

unfoldable pub Met : Shapes → Kinds → Sub → Demand → Type 0
Met S K a (demand.Same i j) = a i ≡ a j
Met S K a (demand.Has i k) = HasKind K k (a i)
Met S K a (demand.Is i s) = a i ≡ scalar_ty s
Met S K a (demand.Array i j) = a i ≡ array_ty (a j)
Met S K a (demand.Fun i from to) = a i ≡ fun_ty (a from) (a to)
Met S K a (demand.Pair i x y) = a i ≡ pair_ty (a x) (a y)
Met S K a (demand.Triple i x y z) = a i ≡ triple_ty (a x) (a y) (a z)
Met S K a (demand.Part i label c) = HasPart S label (a i) (a c)

unfoldable pub All_met : Shapes → Kinds → Sub → List Demand → Type 0
All_met S K a [] = Unit {0}
All_met S K a (d ∷ ds) = Met S K a d × All_met S K a ds

-- a demand's numbers are below base, and its label is known
unfoldable pub IsDemand : ShapeTable → ℕ → Demand → Type 0
IsDemand table base (demand.Same i j) = (i < base) × (j < base)
IsDemand table base (demand.Has i k) = i < base
IsDemand table base (demand.Is i s) = i < base
IsDemand table base (demand.Array i j) = (i < base) × (j < base)
IsDemand table base (demand.Fun i from to) = (i < base) × (from < base) × (to < base)
IsDemand table base (demand.Pair i x y) = (i < base) × (x < base) × (y < base)
IsDemand table base (demand.Triple i x y z) = (i < base) × (x < base) × (y < base) × (z < base)
IsDemand table base (demand.Part i label c) = (i < base) × (c < base) × (label < length table.positions)

unfoldable pub Are_demands : ShapeTable → ℕ → List Demand → Type 0
Are_demands table base [] = Unit {0}
Are_demands table base (d ∷ ds) = IsDemand table base d × Are_demands table base ds

-- no demand lowers a level but with a reason, wherever its nodes are at home
unfoldable pub Allows : (ℕ → ℕ) → Demand → Type 0
Allows home (demand.Same i j) = Unit {0}
Allows home (demand.Has i k) = Unit {0}
Allows home (demand.Is i s) = Unit {0}
Allows home (demand.Array i j) = Unit {0}
Allows home (demand.Fun i from to) = Unit {0}
Allows home (demand.Pair i x y) = Unit {0}
Allows home (demand.Triple i x y z) = Unit {0}
Allows home (demand.Part i label c) = Unit {0}

unfoldable pub All_allow : (ℕ → ℕ) → List Demand → Type 0
All_allow home [] = Unit {0}
All_allow home (d ∷ ds) = Allows home d × All_allow home ds

-- the demands say this of the types of nodes
abbrev pub Say_in : Shapes → List Demand → (Kinds → Sub → Type 0) → Type 0
Say_in S ds P = (K : Kinds) (a : Sub) → (All_met S K a ds → P K a) × (P K a → All_met S K a ds)

abbrev pub Say : List Demand → (Kinds → Sub → Type 0) → Type 0
Say ds P = (S : Shapes) → Say_in S ds P

-- they are within where base is above these numbers
abbrev pub All_below : ℕ → List ℕ → Type 0
All_below base [] = Unit {0}
All_below base (n ∷ ns) = (n < base) × All_below base ns

abbrev pub Stay_within : List Demand → List ℕ → Type 0
Stay_within ds ns = (table : ShapeTable) (base : ℕ) → All_below base ns → Are_demands table base ds

abbrev pub Always_allowed : List Demand → Type 0
Always_allowed ds = (home : ℕ → ℕ) → All_allow home ds

-- the rules of operators are of three classes
abbrev pub By_class : Class → Kinds → Ty → Ty → Type 0
By_class class.Equality K t u = (t ≡ bool_ty) × HasKind K kind.Equal u
By_class class.Comparison K t u = (t ≡ bool_ty) × HasKind K kind.Integer u
By_class class.Arithmetic K t u = (t ≡ u) × HasKind K kind.Integer u
