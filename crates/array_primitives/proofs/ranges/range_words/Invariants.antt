use Rattle.array_primitives.specs.Ranges.{over_lowest, step_held}
use Rattle.array_primitives.proofs.Ranging.{Stepped}
use Rattle.array_primitives.proofs.ranges.range_words.Given as goal

abbrev pub invariant-loop-i : goal.invariant-loop-i
invariant-loop-i l = Stepped l.from.ty (over_lowest l.from.ty l.from.above) (step_held l.stride) l.i l.words l.next
