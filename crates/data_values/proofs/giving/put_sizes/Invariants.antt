use Rattle.std.proofs.Common.{◌≡◌, ◌-◌, ◌++◌}
use Rattle.array_data.specs.Held.{shape_held}
use Rattle.data_values.specs.Met.{sizes_in}
use Rattle.data_values.proofs.giving.put_sizes.Given as goal

abbrev pub invariant-loop : goal.invariant-loop
invariant-loop l = l.fn.sizes ++ sizes_in l.rank (shape_held l.form) ≡ l.sizes ++ sizes_in (l.rank - l.counter) (shape_held l.rest)
