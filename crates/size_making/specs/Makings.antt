-- Which sizes the levels of a type get.
use Rattle.std.specs.Prelude.{ℕ, ◌+◌}
use Rattle.sized_types.specs.Sizes.{Own, Slot, Dim, At}
use Rattle.fut_sizes.specs.Agreeing.{no_size_of, in_frame}
use Rattle.size_making.specs.declared.making.Making.{Making}
use Rattle.size_making.specs.declared.making.Making.TheVariants as making

abbrev pub making_of : Making → ℕ → Dim
making_of (making.Unknown n) = no_size_of n
making_of (making.Own n) = λ i. At (Own n i)
making_of (making.Slots first) = λ i. At (Slot (first + i))
making_of (making.Positions first) = in_frame first
