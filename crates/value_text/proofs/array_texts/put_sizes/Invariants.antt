use Rattle.std.proofs.Common.{◌≡◌, ◌++◌, take}
use Rattle.std.specs.Prelude.{flat_map}
use Rattle.value_text.specs.FlatText.{bracketed}
use Rattle.value_text.proofs.array_texts.put_sizes.Given as goal

abbrev pub invariant-loop-size : goal.invariant-loop-size
invariant-loop-size l = l.text.items ≡ l.initial.text.items ++ flat_map bracketed (take l.size-index l.sizes)
