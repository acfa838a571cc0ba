use Rattle.std.proofs.Common.{◌≡◌, map, take}
use Rattle.fut_value.specs.Values.{datum_of}
use Rattle.value_text.specs.Printing.{data_output}
use Rattle.value_text.proofs.array_texts.print_values.Given as goal

abbrev pub invariant-loop-value : goal.invariant-loop-value
invariant-loop-value l = l.text.items ≡ data_output (map datum_of (take l.value-index l.values))
