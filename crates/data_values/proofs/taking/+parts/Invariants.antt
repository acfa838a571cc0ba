use Rattle.std.proofs.Common.{◌≡◌, ◌+◌, ◌-◌, ◌*◌, ◌++◌, length, map}
use Rattle.fut_value.specs.Values.{cut, datum_with}
use Rattle.array_data.specs.Held.{built_rows}
use Rattle.data_values.proofs.taking.+parts.Given as goal

abbrev pub decreases-data_with : goal.decreases-data_with
decreases-data_with l = 2 * length l.sizes.now

abbrev pub decreases-rows_with : goal.decreases-rows_with
decreases-rows_with l = 2 * length l.sizes.now + 1

abbrev pub invariant-rows_with-loop : goal.invariant-rows_with-loop
invariant-rows_with-loop l = built_rows l.built ++ map (datum_with l.elem l.sizes) (cut (l.count - l.counter) l.length l.rest) ≡ map (datum_with l.elem l.sizes) (cut l.count l.length l.words)
