-- The types of all primitives, as they read without sizes and stars.
use Rattle.std.proofs.Common.{◌≡◌, refl}
use Rattle.fut_scalar.specs.declared.scalar.IntType.{IntType}
use Rattle.fut_scalar.specs.declared.scalar.ScalarType.{ScalarType}
use Rattle.fut_scalar.specs.declared.scalar.ScalarType.TheVariants as scalar
use Rattle.fut_flat.specs.declared.prim.Folding.TheVariants as folding
use Rattle.fut_flat.specs.declared.prim.Primitive.TheVariants as prim
use Rattle.fut_types.specs.Types.{Ty, Var, scalar_ty, fun_ty}
use Rattle.fut_typing.specs.Primitives.{array_ty, pair_ty, triple_ty, bool_ty, i32_ty, i64_ty, prim_type}

infixr 20 ◌⇒◌
abbrev ◌⇒◌ : Ty → Ty → Ty
from ⇒ to = fun_ty from to

abbrev a : Ty
a = Var 0

abbrev b : Ty
b = Var 1

abbrev c : Ty
c = Var 2

abbrev d : Ty
d = Var 3

abbrev e : Ty
e = Var 4

abbrev f : Ty
f = Var 5

type_of_map : prim_type prim.Map ≡ (a ⇒ b) ⇒ array_ty a ⇒ array_ty b
type_of_map = refl

type_of_map2 : prim_type prim.Map2 ≡ (a ⇒ b ⇒ c) ⇒ array_ty a ⇒ array_ty b ⇒ array_ty c
type_of_map2 = refl

type_of_map3 : prim_type prim.Map3 ≡ (a ⇒ b ⇒ c ⇒ d) ⇒ array_ty a ⇒ array_ty b ⇒ array_ty c ⇒ array_ty d
type_of_map3 = refl

type_of_map4 : prim_type prim.Map4 ≡ (a ⇒ b ⇒ c ⇒ d ⇒ e) ⇒ array_ty a ⇒ array_ty b ⇒ array_ty c ⇒ array_ty d ⇒ array_ty e
type_of_map4 = refl

type_of_map5 : prim_type prim.Map5 ≡ (a ⇒ b ⇒ c ⇒ d ⇒ e ⇒ f) ⇒ array_ty a ⇒ array_ty b ⇒ array_ty c ⇒ array_ty d ⇒ array_ty e ⇒ array_ty f
type_of_map5 = refl

type_of_reduce : prim_type prim.Reduce ≡ (a ⇒ a ⇒ a) ⇒ a ⇒ array_ty a ⇒ a
type_of_reduce = refl

type_of_reduce_comm : prim_type prim.ReduceComm ≡ (a ⇒ a ⇒ a) ⇒ a ⇒ array_ty a ⇒ a
type_of_reduce_comm = refl

type_of_scan : prim_type prim.Scan ≡ (a ⇒ a ⇒ a) ⇒ a ⇒ array_ty a ⇒ array_ty a
type_of_scan = refl

type_of_filter : prim_type prim.Filter ≡ (a ⇒ bool_ty) ⇒ array_ty a ⇒ array_ty a
type_of_filter = refl

type_of_partition : prim_type prim.Partition ≡ (a ⇒ bool_ty) ⇒ array_ty a ⇒ pair_ty (array_ty a) (array_ty a)
type_of_partition = refl

type_of_scatter : prim_type prim.Scatter ≡ array_ty a ⇒ array_ty i64_ty ⇒ array_ty a ⇒ array_ty a
type_of_scatter = refl

type_of_reduce_by_index : prim_type prim.ReduceByIndex ≡ array_ty a ⇒ (a ⇒ a ⇒ a) ⇒ a ⇒ array_ty i64_ty ⇒ array_ty a ⇒ array_ty a
type_of_reduce_by_index = refl

type_of_zip : prim_type prim.Zip ≡ array_ty a ⇒ array_ty b ⇒ array_ty (pair_ty a b)
type_of_zip = refl

type_of_zip3 : prim_type prim.Zip3 ≡ array_ty a ⇒ array_ty b ⇒ array_ty c ⇒ array_ty (triple_ty a b c)
type_of_zip3 = refl

type_of_unzip : prim_type prim.Unzip ≡ array_ty (pair_ty a b) ⇒ pair_ty (array_ty a) (array_ty b)
type_of_unzip = refl

type_of_unzip3 : prim_type prim.Unzip3 ≡ array_ty (triple_ty a b c) ⇒ triple_ty (array_ty a) (array_ty b) (array_ty c)
type_of_unzip3 = refl

type_of_iota : prim_type prim.Iota ≡ i64_ty ⇒ array_ty i64_ty
type_of_iota = refl

type_of_replicate : prim_type prim.Replicate ≡ i64_ty ⇒ a ⇒ array_ty a
type_of_replicate = refl

type_of_tabulate : prim_type prim.Tabulate ≡ i64_ty ⇒ (i64_ty ⇒ a) ⇒ array_ty a
type_of_tabulate = refl

type_of_indices : prim_type prim.Indices ≡ array_ty a ⇒ array_ty i64_ty
type_of_indices = refl

type_of_length : prim_type prim.Length ≡ array_ty a ⇒ i64_ty
type_of_length = refl

type_of_null : prim_type prim.Null ≡ array_ty a ⇒ bool_ty
type_of_null = refl

type_of_head : prim_type prim.Head ≡ array_ty a ⇒ a
type_of_head = refl

type_of_last : prim_type prim.Last ≡ array_ty a ⇒ a
type_of_last = refl

type_of_init : prim_type prim.Init ≡ array_ty a ⇒ array_ty a
type_of_init = refl

type_of_tail : prim_type prim.Tail ≡ array_ty a ⇒ array_ty a
type_of_tail = refl

type_of_take : prim_type prim.Take ≡ i64_ty ⇒ array_ty a ⇒ array_ty a
type_of_take = refl

type_of_drop : prim_type prim.Drop ≡ i64_ty ⇒ array_ty a ⇒ array_ty a
type_of_drop = refl

type_of_reverse : prim_type prim.Reverse ≡ array_ty a ⇒ array_ty a
type_of_reverse = refl

type_of_rotate : prim_type prim.Rotate ≡ i64_ty ⇒ array_ty a ⇒ array_ty a
type_of_rotate = refl

type_of_concat : prim_type prim.Concat ≡ array_ty a ⇒ array_ty a ⇒ array_ty a
type_of_concat = refl

type_of_flatten : prim_type prim.Flatten ≡ array_ty (array_ty a) ⇒ array_ty a
type_of_flatten = refl

type_of_unflatten : prim_type prim.Unflatten ≡ i64_ty ⇒ i64_ty ⇒ array_ty a ⇒ array_ty (array_ty a)
type_of_unflatten = refl

type_of_transpose : prim_type prim.Transpose ≡ array_ty (array_ty a) ⇒ array_ty (array_ty a)
type_of_transpose = refl

type_of_copy : prim_type prim.Copy ≡ a ⇒ a
type_of_copy = refl

type_of_convert : (to from : ScalarType) → prim_type (prim.Convert to from) ≡ scalar_ty from ⇒ scalar_ty to
type_of_convert to from = refl

type_of_min : (t : IntType) → prim_type (prim.Min t) ≡ scalar_ty (scalar.Int t) ⇒ scalar_ty (scalar.Int t) ⇒ scalar_ty (scalar.Int t)
type_of_min t = refl

type_of_max : (t : IntType) → prim_type (prim.Max t) ≡ scalar_ty (scalar.Int t) ⇒ scalar_ty (scalar.Int t) ⇒ scalar_ty (scalar.Int t)
type_of_max t = refl

type_of_abs : (t : IntType) → prim_type (prim.Abs t) ≡ scalar_ty (scalar.Int t) ⇒ scalar_ty (scalar.Int t)
type_of_abs t = refl

type_of_popc : (t : IntType) → prim_type (prim.Popc t) ≡ scalar_ty (scalar.Int t) ⇒ i32_ty
type_of_popc t = refl

type_of_lowest : (t : IntType) → prim_type (prim.Lowest t) ≡ scalar_ty (scalar.Int t)
type_of_lowest t = refl

type_of_highest : (t : IntType) → prim_type (prim.Highest t) ≡ scalar_ty (scalar.Int t)
type_of_highest t = refl

type_of_num_bits : (t : IntType) → prim_type (prim.NumBits t) ≡ i32_ty
type_of_num_bits t = refl

type_of_sum : (t : IntType) → prim_type (prim.Fold folding.Sum t) ≡ array_ty (scalar_ty (scalar.Int t)) ⇒ scalar_ty (scalar.Int t)
type_of_sum t = refl

type_of_product : (t : IntType) → prim_type (prim.Fold folding.Product t) ≡ array_ty (scalar_ty (scalar.Int t)) ⇒ scalar_ty (scalar.Int t)
type_of_product t = refl

type_of_minimum : (t : IntType) → prim_type (prim.Fold folding.Minimum t) ≡ array_ty (scalar_ty (scalar.Int t)) ⇒ scalar_ty (scalar.Int t)
type_of_minimum t = refl

type_of_maximum : (t : IntType) → prim_type (prim.Fold folding.Maximum t) ≡ array_ty (scalar_ty (scalar.Int t)) ⇒ scalar_ty (scalar.Int t)
type_of_maximum t = refl
