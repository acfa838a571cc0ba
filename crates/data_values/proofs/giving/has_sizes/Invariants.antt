use Rattle.std.proofs.Common.{◌≡◌, ◌-◌, ◌++◌, length, take}
use Rattle.array_data.specs.Held.{shape_held}
use Rattle.data_values.specs.Met.{sizes_in}
use Rattle.data_values.proofs.giving.has_sizes.Given as goal

abbrev pub invariant-loop-size : goal.invariant-loop-size
invariant-loop-size l = sizes_in (length l.sizes) (shape_held l.form) ≡ take l.size-index l.sizes ++ sizes_in (length l.sizes - l.size-index) (shape_held l.rest)
