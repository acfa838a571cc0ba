use Rattle.std.proofs.Common.{◌≡◌, ◌+◌, drop}
use Rattle.alias_values.specs.Components.{all_how_many}
use Rattle.alias_values.specs.Trees.{values_of}
use Rattle.alias_values.proofs.values.+component_count.Given as goal

abbrev pub invariant-all_count-loop-part : goal.invariant-all_count-loop-part
invariant-all_count-loop-part l = l.next + all_how_many (values_of (drop l.part-index l.parts)) ≡ l.first + all_how_many (values_of l.parts)
