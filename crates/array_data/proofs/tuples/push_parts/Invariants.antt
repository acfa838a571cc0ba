use Rattle.array_data.specs.Held.{held_all}
use Rattle.array_data.proofs.Tupling.{Pushed_to}
use Rattle.array_data.proofs.tuples.push_parts.Given as goal

abbrev pub invariant-loop-part : goal.invariant-loop-part
invariant-loop-part l = Pushed_to l.parts l.part-index (held_all l.initial.stack.items) (held_all l.stack.items)
