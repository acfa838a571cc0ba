-- Sized types of primitives, as the definition gives them.
use Rattle.std.proofs.Common.{◌≡◌, ℕ, refl}
use Rattle.fut_scalar.specs.declared.scalar.ScalarType.TheVariants as scalar
use Rattle.fut_scalar.specs.declared.scalar.IntType.TheVariants as int
use Rattle.fut_flat.specs.declared.prim.Folding.TheVariants as folding
use Rattle.fut_flat.specs.declared.prim.Primitive.TheVariants as prim
use Rattle.sized_types.specs.Sizes.{Bound, Inferred, Size, Hole, Level, Fun, levels, all_levels}
use Rattle.fut_sizes.specs.Primitives.{scalar_size, pair_size, triple_size, sized_type, prim_size}

abbrev bool : Size
bool = scalar_size scalar.Bool

abbrev i64 : Size
i64 = scalar_size (scalar.Int int.I64)

abbrev array : ℕ → ℕ → Size → Size
array j i t = Level (Bound j i) t

abbrev a : Size
a = Hole (Inferred 0)

abbrev b : Size
b = Hole (Inferred 1)

abbrev c : Size
c = Hole (Inferred 2)

-- the frame of its second arrow binds n
map_size : prim_size prim.Map ≡ Fun 0 (Fun 0 a b) (Fun 1 (array 0 0 a) (array 0 0 b))
unfolding prim_size sized_type
map_size = refl

-- n is chosen with the first array, and the second has to have it
map2_size : prim_size prim.Map2 ≡ Fun 0 (Fun 0 a (Fun 0 b c)) (Fun 1 (array 0 0 a) (Fun 0 (array 1 0 b) (array 1 0 c)))
unfolding prim_size sized_type
map2_size = refl

-- the size of the result is the argument's value
iota_size : prim_size prim.Iota ≡ Fun 0 i64 (array 0 0 i64)
unfolding prim_size sized_type
iota_size = refl

-- position 1 would be the argument, 2 is met
filter_size : prim_size prim.Filter ≡ Fun 0 (Fun 0 a bool) (Fun 1 (array 0 0 a) (array 0 2 a))
unfolding prim_size sized_type
filter_size = refl

partition_size : prim_size prim.Partition ≡ Fun 0 (Fun 0 a bool) (Fun 1 (array 0 0 a) (pair_size (array 0 2 a) (array 0 3 a)))
unfolding prim_size sized_type levels all_levels
partition_size = refl

unflatten_size : prim_size prim.Unflatten ≡ Fun 0 i64 (Fun 0 i64 (Fun 1 (array 0 0 a) (array 2 0 (array 1 0 a))))
unfolding prim_size sized_type
unflatten_size = refl

transpose_size : prim_size prim.Transpose ≡ Fun 2 (array 0 0 (array 0 1 a)) (array 0 1 (array 0 0 a))
unfolding prim_size sized_type
transpose_size = refl

concat_size : prim_size prim.Concat ≡ Fun 1 (array 0 0 a) (Fun 1 (array 0 0 a) (array 0 2 a))
unfolding prim_size sized_type
concat_size = refl

flatten_size : prim_size prim.Flatten ≡ Fun 2 (array 0 0 (array 0 1 a)) (array 0 3 a)
unfolding prim_size sized_type
flatten_size = refl

reduce_by_index_size : prim_size prim.ReduceByIndex ≡ Fun 1 (array 0 0 a) (Fun 0 (Fun 0 a (Fun 0 a a)) (Fun 0 a (Fun 1 (array 0 0 i64) (Fun 0 (array 1 0 a) (array 4 0 a)))))
unfolding prim_size sized_type
reduce_by_index_size = refl

sum_size : prim_size (prim.Fold folding.Sum int.I64) ≡ Fun 1 (array 0 0 i64) i64
unfolding prim_size sized_type
sum_size = refl

unzip3_size : prim_size prim.Unzip3 ≡ Fun 1 (array 0 0 (triple_size a b c)) (triple_size (array 0 0 a) (array 0 0 b) (array 0 0 c))
unfolding prim_size sized_type
unzip3_size = refl
