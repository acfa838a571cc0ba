use Rattle.std.proofs.Common.{◌≡◌, take}
use Rattle.value_text.specs.Printing.{output_of}
use Rattle.value_text.proofs.printing.print_scalars.Given as goal

abbrev pub invariant-loop-value : goal.invariant-loop-value
invariant-loop-value l = l.text.items ≡ output_of (take l.value-index l.values)
