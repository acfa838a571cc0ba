use Rattle.array_data.specs.Held.{built_rows}
use Rattle.array_data.proofs.Tupling.{Pushed_to}
use Rattle.array_data.proofs.tuples.push_all.Given as goal

abbrev pub invariant-loop-part : goal.invariant-loop-part
invariant-loop-part l = Pushed_to l.parts l.part-index (built_rows l.initial.built) (built_rows l.built)
