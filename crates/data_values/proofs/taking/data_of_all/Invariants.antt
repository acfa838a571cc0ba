use Rattle.std.proofs.Common.{◌≡◌, map}
use Rattle.fut_value.specs.Values.{datum_of}
use Rattle.array_data.specs.Held.{held_all}
use Rattle.data_values.proofs.taking.data_of_all.Given as goal

abbrev pub invariant-loop-value : goal.invariant-loop-value
invariant-loop-value l = held_all l.all ≡ map datum_of l.yielded
