-- What the names of primitives and of scalar types stand for.
use Rattle.std.specs.Prelude.{ℕ, cond, List, [], ◌∷◌, Option, Some, None}
use Rattle.std.specs.Str.{bytes_eq}
use Rattle.fut_scalar.specs.declared.scalar.ScalarType.{ScalarType}
use Rattle.fut_scalar.specs.declared.scalar.ScalarType.TheVariants as scalar
use Rattle.fut_scalar.specs.declared.scalar.IntType.{IntType}
use Rattle.fut_flat.specs.declared.prim.Primitive.{Primitive}
use Rattle.fut_flat.specs.declared.prim.Folding.TheVariants as folding
use Rattle.fut_flat.specs.declared.prim.Primitive.TheVariants as prim
use Rattle.fut_primitives.specs.Table.{name, scalar_name}
use Rattle.fut_primitives.specs.declared.names.TheConstants.{ARRAY_PRIMITIVES, SCALAR_TYPES}

-- the first of these whose name it is
abbrev pub first_named : {A : Type 0} → (A → List ℕ) → List A → List ℕ → Option A
first_named word [] x = None
first_named word (p ∷ ps) x = cond (bytes_eq (word p) x) (Some p) (first_named word ps x)

-- a primitive that is no member: it works on arrays
unfoldable pub primitive_of : List ℕ → Option Primitive
primitive_of x = first_named name ARRAY_PRIMITIVES x

-- a scalar type, which is a module too
unfoldable pub scalar_of : List ℕ → Option ScalarType
scalar_of x = first_named scalar_name SCALAR_TYPES x

-- the members of an integer type that are no conversions
abbrev pub integer_members : IntType → List Primitive
integer_members t = prim.Min t ∷ prim.Max t ∷ prim.Abs t ∷ prim.Popc t ∷ prim.Lowest t ∷ prim.Highest t ∷ prim.NumBits t ∷ prim.Fold folding.Sum t ∷ prim.Fold folding.Product t ∷ prim.Fold folding.Minimum t ∷ prim.Fold folding.Maximum t ∷ []

abbrev pub other_member : ScalarType → List ℕ → Option Primitive
other_member (scalar.Int t) x = first_named name (integer_members t) x
other_member scalar.Bool x = None

abbrev pub member_from : ScalarType → List ℕ → Option ScalarType → Option Primitive
member_from to x (Some from) = Some (prim.Convert to from)
member_from to x None = other_member to x

-- a member of the module of a scalar type: `to.from` converts from a type to the module's
unfoldable pub member_of : ScalarType → List ℕ → Option Primitive
member_of to x = member_from to x (scalar_of x)
