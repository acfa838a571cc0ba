-- What meets, in examples.
use Rattle.std.proofs.Common.{◌≡◌, false, Ok, Err, refl}
use Rattle.fut_scalar.specs.declared.scalar.ScalarType.TheVariants as scalar
use Rattle.fut_scalar.specs.declared.scalar.IntType.TheVariants as int
use Rattle.fut_types.specs.Types.{Var}
use Rattle.sized_types.specs.Sizes.{Const, Name, Slot, At, Bound, Inferred, Size, Open, Level, Fun, is_free, replaced, has, some_has}
use Rattle.fut_sizes.specs.Levels.{levels_within, all_levels_within}
use Rattle.fut_sizes.specs.Primitives.{scalar_size}
use Rattle.fut_sizes.specs.Agreeing.{Answer, Mismatch, Irregular}
use Rattle.fut_sizes.specs.Matching.{Found, nothing_found, none_opened, size_found, type_found, counted, data_way, function_way, read, meet, inside}

abbrev i64 : Size
i64 = scalar_size (scalar.Int int.I64)

abbrev element : Size
element = Open 2 (Inferred 0) (Var 0)

-- an application at node 7 meets an argument at node 3
abbrev met : Size → Size → Answer Found
met wanted found = meet 7 data_way 3 none_opened wanted none_opened found nothing_found

abbrev function_met : Size → Size → Answer Found
function_met wanted found = meet 7 (function_way false) 3 none_opened wanted none_opened found nothing_found

-- a slot takes the first size that it meets
slot_takes_size : met (Level (At (Slot 0)) i64) (Level (At (Name 4)) i64) ≡ Ok (size_found 0 (Name 4) nothing_found)
unfolding meet
slot_takes_size = refl

-- of two slots the greater becomes the smaller
slots_linked : met (Level (At (Slot 2)) i64) (Level (At (Slot 1)) i64) ≡ Ok (size_found 2 (Slot 1) nothing_found)
unfolding meet
slots_linked = refl

sizes_differ : met (Level (At (Const 2)) i64) (Level (At (Const 3)) i64) ≡ Err (Mismatch 3 (At (Const 2)) (At (Const 3)))
unfolding meet is_free
sizes_differ = refl

-- an open variable takes an array, whose sizes stay
variable_takes_array : met element (Level (At (Name 4)) i64) ≡ Ok (type_found 2 (Inferred 0) (Level (At (Name 4)) i64) nothing_found)
unfolding meet read replaced
variable_takes_array = refl

-- the rows that a function gives could differ where their size is met in each call
rows_differ : function_met (Fun 0 i64 element) (Fun 0 i64 (Level (Bound 0 1) i64)) ≡ Err (Irregular 3)
unfolding meet read replaced has some_has inside levels_within all_levels_within
rows_differ = refl

-- they are of the argument's size, or of one that is known
rows_alike : function_met (Fun 0 i64 element) (Fun 0 i64 (Level (At (Name 4)) i64)) ≡ Ok (type_found 2 (Inferred 0) (Level (At (Name 4)) i64) (counted 3 nothing_found))
unfolding meet read replaced has some_has inside levels_within all_levels_within
rows_alike = refl
