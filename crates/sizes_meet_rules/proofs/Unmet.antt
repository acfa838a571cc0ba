-- What a rule asks and the pass does not give: the rule, or the pass, is to be changed there.
use Rattle.std.proofs.Common.{◌≡◌, true, false, refl}
use Rattle.fut_scalar.specs.declared.scalar.ScalarType.TheVariants as scalar
use Rattle.fut_scalar.specs.declared.scalar.IntType.TheVariants as int
use Rattle.fut_sizes.specs.Primitives.{scalar_size}
use Rattle.fut_sizes.specs.Scoping.{nothing_known, with_entered, with_scheme}
use Rattle.sized_types.specs.Sizes.{Name, Unknown, At, Size, Level, Fun, is_free, is_dim}
use Rattle.sized_types.specs.Standing.{stands, some_stands, is_known, all_known, gives_chosen, all_chosen}

abbrev i64 : Size
i64 = scalar_size (scalar.Int int.I64)

-- ---- a size that stands in a function's type alone, whose parameter names it too: behind `g : [n]i64 -> [n]i64` n is found
-- nowhere, so a function inside that gives an array of size n does not tell its results' shape (`Telling`)

abbrev of_n : Size
of_n = Level (At (Name 5)) i64

abbrev n_to_n : Size
n_to_n = Fun 0 of_n of_n

found_nowhere : (with_entered n_to_n nothing_known).finds (Name 5) ≡ false
unfolding stands some_stands is_known all_known gives_chosen all_chosen is_dim is_free
found_nowhere = refl

-- ---- the sizes of a definition that is data: behind `def xs = 0..<1 + 1` the size of xs, an unknown of the value's node, is found
-- nowhere, since the context of what stands behind a definition has its name alone. So `def f (y: i64) = xs`, to which the pass gives
-- the type i64 -> [that unknown]i64, does not tell its results' shape. The rule has to enter what a definition has, as that of a local
-- function does: `with_definition` is `with_scheme` over `with_entered` of the definition's sized type.

abbrev of_unknown : Size
of_unknown = Level (At (Unknown 1 0)) i64

not_entered : (with_scheme 0 of_unknown (λ v. true) nothing_known).finds (Unknown 1 0) ≡ false
not_entered = refl

entered : (with_scheme 0 of_unknown (λ v. true) (with_entered of_unknown nothing_known)).finds (Unknown 1 0) ≡ true
unfolding stands some_stands is_known all_known gives_chosen all_chosen is_dim is_free
entered = refl
