use Rattle.std.proofs.Common.{◌≡◌, ◌++◌, All, drop, map}
use Rattle.fut_value.specs.Values.{IsWellFormed, datum_of}
use Rattle.array_data.specs.Held.{held_all}
use Rattle.data_values.specs.Met.{each_met}
use Rattle.data_values.proofs.giving.values_of.Given as goal

abbrev pub invariant-loop-ty : goal.invariant-loop-ty
invariant-loop-ty l = record {
  same : map datum_of l.values ++ each_met (drop l.ty-index l.types) (held_all l.rest) ≡ each_met l.types (held_all l.components);
  formed : All IsWellFormed l.values;
}
