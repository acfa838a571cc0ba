use Rattle.std.proofs.Common.{refl, arith}
use Rattle.unfold_parts.specs.Answers.{no_tuples_paired}
use Rattle.unfold_parts.proofs.Equating.{pair_tuples}
use Rattle.unfold_parts.proofs.equality.tuples_paired.Goals as goal

pub returns-then-lefts-rights : goal.returns-then-lefts-rights
returns-then-lefts-rights c = pair_tuples _ _ _ refl refl (omega (arith, c.if-lefts-rights.true))

pub returns-else-lefts-rights : goal.returns-else-lefts-rights
returns-else-lefts-rights c = no_tuples_paired
