use Rattle.fut_scalar.specs.declared.scalar.Scalar.TheVariants as scalar
use Rattle.array_primitives.proofs.Combining.{Combined_to}
use Rattle.array_primitives.proofs.summaries.combine.Given as goal

abbrev pub invariant-loop-word : goal.invariant-loop-word
invariant-loop-word l = Combined_to l.op l.at l.ty (scalar.Int l.ty l.neutral) l.words l.word-index l.total
