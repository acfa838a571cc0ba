-- The table of primitives: the name of each and its type (Futhark Language Reference, "The basis", and the documentation of its
-- prelude, as this profile has them).
use Rattle.std.specs.Prelude.{codes, ℕ, List, length}
use Rattle.fut_scalar.specs.declared.scalar.IntType.TheVariants as int
use Rattle.fut_scalar.specs.declared.scalar.ScalarType.{ScalarType}
use Rattle.fut_scalar.specs.declared.scalar.ScalarType.TheVariants as scalar
use Rattle.fut_flat.specs.declared.prim.Primitive.{Primitive}
use Rattle.fut_flat.specs.declared.prim.Folding.TheVariants as folding
use Rattle.fut_flat.specs.declared.prim.Primitive.TheVariants as prim
use Rattle.fut_primitives.specs.Written.{Written, ◌⇒◌, ⟦◌⟧◌, *◌, ◌∶◌, pair, triple, a, b, c, d, e, f, t, u, bool, i32, i64, n, m, k, unknown, parameters}

pub record Line : Type 0 where
  pub name : List ℕ
  pub written : Written

infixr 5 ◌⦂◌
abbrev ◌⦂◌ : List ℕ → Written → Line
word ⦂ type = record { name = word; written = type }

-- the name of a scalar type, which is that of its module and of the conversions from it
abbrev pub scalar_name : ScalarType → List ℕ
scalar_name (scalar.Int int.I8) = codes "i8"
scalar_name (scalar.Int int.I16) = codes "i16"
scalar_name (scalar.Int int.I32) = codes "i32"
scalar_name (scalar.Int int.I64) = codes "i64"
scalar_name (scalar.Int int.U8) = codes "u8"
scalar_name (scalar.Int int.U16) = codes "u16"
scalar_name (scalar.Int int.U32) = codes "u32"
scalar_name (scalar.Int int.U64) = codes "u64"
scalar_name scalar.Bool = codes "bool"

abbrev pub table : Primitive → Line
table prim.Map = codes "map" ⦂ (a ⇒ b) ⇒ ⟦ n ⟧ a ⇒ * ⟦ n ⟧ b
table prim.Map2 = codes "map2" ⦂ (a ⇒ b ⇒ c) ⇒ ⟦ n ⟧ a ⇒ ⟦ n ⟧ b ⇒ * ⟦ n ⟧ c
table prim.Map3 = codes "map3" ⦂ (a ⇒ b ⇒ c ⇒ d) ⇒ ⟦ n ⟧ a ⇒ ⟦ n ⟧ b ⇒ ⟦ n ⟧ c ⇒ * ⟦ n ⟧ d
table prim.Map4 = codes "map4" ⦂ (a ⇒ b ⇒ c ⇒ d ⇒ e) ⇒ ⟦ n ⟧ a ⇒ ⟦ n ⟧ b ⇒ ⟦ n ⟧ c ⇒ ⟦ n ⟧ d ⇒ * ⟦ n ⟧ e
table prim.Map5 = codes "map5" ⦂ (a ⇒ b ⇒ c ⇒ d ⇒ e ⇒ f) ⇒ ⟦ n ⟧ a ⇒ ⟦ n ⟧ b ⇒ ⟦ n ⟧ c ⇒ ⟦ n ⟧ d ⇒ ⟦ n ⟧ e ⇒ * ⟦ n ⟧ f
table prim.Reduce = codes "reduce" ⦂ (a ⇒ a ⇒ a) ⇒ a ⇒ ⟦ n ⟧ a ⇒ a
table prim.ReduceComm = codes "reduce_comm" ⦂ (a ⇒ a ⇒ a) ⇒ a ⇒ ⟦ n ⟧ a ⇒ a
table prim.Scan = codes "scan" ⦂ (a ⇒ a ⇒ a) ⇒ a ⇒ ⟦ n ⟧ a ⇒ * ⟦ n ⟧ a
table prim.Filter = codes "filter" ⦂ (a ⇒ bool) ⇒ ⟦ n ⟧ a ⇒ * ⟦ unknown ⟧ a
table prim.Partition = codes "partition" ⦂ (a ⇒ bool) ⇒ ⟦ n ⟧ a ⇒ pair (* ⟦ unknown ⟧ a) (* ⟦ unknown ⟧ a)
table prim.Scatter = codes "scatter" ⦂ * ⟦ k ⟧ a ⇒ ⟦ n ⟧ i64 ⇒ ⟦ n ⟧ a ⇒ * ⟦ k ⟧ a
table prim.ReduceByIndex = codes "reduce_by_index" ⦂ * ⟦ k ⟧ a ⇒ (a ⇒ a ⇒ a) ⇒ a ⇒ ⟦ n ⟧ i64 ⇒ ⟦ n ⟧ a ⇒ * ⟦ k ⟧ a
table prim.Zip = codes "zip" ⦂ ⟦ n ⟧ a ⇒ ⟦ n ⟧ b ⇒ * ⟦ n ⟧ pair a b
table prim.Zip3 = codes "zip3" ⦂ ⟦ n ⟧ a ⇒ ⟦ n ⟧ b ⇒ ⟦ n ⟧ c ⇒ * ⟦ n ⟧ triple a b c
table prim.Unzip = codes "unzip" ⦂ ⟦ n ⟧ pair a b ⇒ pair (⟦ n ⟧ a) (⟦ n ⟧ b)
table prim.Unzip3 = codes "unzip3" ⦂ ⟦ n ⟧ triple a b c ⇒ triple (⟦ n ⟧ a) (⟦ n ⟧ b) (⟦ n ⟧ c)
table prim.Iota = codes "iota" ⦂ (n ∶ i64) ⇒ * ⟦ n ⟧ i64
table prim.Replicate = codes "replicate" ⦂ (n ∶ i64) ⇒ a ⇒ * ⟦ n ⟧ a
table prim.Tabulate = codes "tabulate" ⦂ (n ∶ i64) ⇒ (i64 ⇒ a) ⇒ * ⟦ n ⟧ a
table prim.Indices = codes "indices" ⦂ ⟦ n ⟧ a ⇒ * ⟦ n ⟧ i64
table prim.Length = codes "length" ⦂ ⟦ n ⟧ a ⇒ i64
table prim.Null = codes "null" ⦂ ⟦ n ⟧ a ⇒ bool
table prim.Head = codes "head" ⦂ ⟦ n ⟧ a ⇒ a
table prim.Last = codes "last" ⦂ ⟦ n ⟧ a ⇒ a
table prim.Init = codes "init" ⦂ ⟦ n ⟧ a ⇒ ⟦ unknown ⟧ a
table prim.Tail = codes "tail" ⦂ ⟦ n ⟧ a ⇒ ⟦ unknown ⟧ a
table prim.Take = codes "take" ⦂ i64 ⇒ ⟦ n ⟧ a ⇒ ⟦ unknown ⟧ a
table prim.Drop = codes "drop" ⦂ i64 ⇒ ⟦ n ⟧ a ⇒ ⟦ unknown ⟧ a
table prim.Reverse = codes "reverse" ⦂ ⟦ n ⟧ a ⇒ ⟦ n ⟧ a
table prim.Rotate = codes "rotate" ⦂ i64 ⇒ ⟦ n ⟧ a ⇒ ⟦ n ⟧ a
table prim.Concat = codes "concat" ⦂ ⟦ n ⟧ a ⇒ ⟦ m ⟧ a ⇒ * ⟦ unknown ⟧ a
table prim.Flatten = codes "flatten" ⦂ ⟦ n ⟧ ⟦ m ⟧ a ⇒ ⟦ unknown ⟧ a
table prim.Unflatten = codes "unflatten" ⦂ (n ∶ i64) ⇒ (m ∶ i64) ⇒ ⟦ k ⟧ a ⇒ ⟦ n ⟧ ⟦ m ⟧ a
table prim.Transpose = codes "transpose" ⦂ ⟦ n ⟧ ⟦ m ⟧ a ⇒ ⟦ m ⟧ ⟦ n ⟧ a
table prim.Copy = codes "copy" ⦂ a ⇒ * a
table (prim.Convert to from) = scalar_name from ⦂ u ⇒ t
table (prim.Min own) = codes "min" ⦂ t ⇒ t ⇒ t
table (prim.Max own) = codes "max" ⦂ t ⇒ t ⇒ t
table (prim.Abs own) = codes "abs" ⦂ t ⇒ t
table (prim.Popc own) = codes "popc" ⦂ t ⇒ i32
table (prim.Lowest own) = codes "lowest" ⦂ t
table (prim.Highest own) = codes "highest" ⦂ t
table (prim.NumBits own) = codes "num_bits" ⦂ i32
table (prim.Fold folding.Sum own) = codes "sum" ⦂ ⟦ n ⟧ t ⇒ t
table (prim.Fold folding.Product own) = codes "product" ⦂ ⟦ n ⟧ t ⇒ t
table (prim.Fold folding.Minimum own) = codes "minimum" ⦂ ⟦ n ⟧ t ⇒ t
table (prim.Fold folding.Maximum own) = codes "maximum" ⦂ ⟦ n ⟧ t ⇒ t

abbrev pub name : Primitive → List ℕ
name p = (table p).name

abbrev pub written : Primitive → Written
written p = (table p).written

-- what a primitive takes: 0 for data, and for a function how many arguments it takes
abbrev pub parameters_of : Primitive → List ℕ
parameters_of p = parameters (written p)

abbrev pub arity : Primitive → ℕ
arity p = length (parameters_of p)

-- the scalar type whose member a primitive is, and the one that it converts from; the others have none
abbrev pub own_of : Primitive → ScalarType
own_of (prim.Convert to from) = to
own_of (prim.Min t) = scalar.Int t
own_of (prim.Max t) = scalar.Int t
own_of (prim.Abs t) = scalar.Int t
own_of (prim.Popc t) = scalar.Int t
own_of (prim.Lowest t) = scalar.Int t
own_of (prim.Highest t) = scalar.Int t
own_of (prim.NumBits t) = scalar.Int t
own_of (prim.Fold f t) = scalar.Int t
own_of p = scalar.Bool

abbrev pub from_of : Primitive → ScalarType
from_of (prim.Convert to from) = from
from_of p = scalar.Bool
