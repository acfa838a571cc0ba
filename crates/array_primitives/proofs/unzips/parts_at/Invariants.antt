use Rattle.array_data.specs.Held.{built_rows}
use Rattle.array_primitives.proofs.Unzipping.{Parts_to}
use Rattle.array_primitives.proofs.unzips.parts_at.Given as goal

abbrev pub invariant-loop-whole : goal.invariant-loop-whole
invariant-loop-whole l = Parts_to l.rows l.at l.whole-index (built_rows l.built)
