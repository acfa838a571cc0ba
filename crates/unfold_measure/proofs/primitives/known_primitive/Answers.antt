use Rattle.std.proofs.Common.{sym}
use Rattle.unfold_measure.specs.Held.{knowns}
use Rattle.unfold_measure.proofs.Making.{primitive_made}
use Rattle.unfold_measure.proofs.Numbered.{is_function}
use Rattle.unfold_measure.proofs.primitives.known_primitive.Goals as goal

pub returns-in_default-clause-ok : goal.returns-in_default-clause-ok
unfolding knowns
returns-in_default-clause-ok c = primitive_made _ _ _ (sym (is_function _ c.in_default.not-Lowest c.in_default.not-Highest c.in_default.not-NumBits)) c.held.ensures.ok

pub returns-in_default-clause-err : goal.returns-in_default-clause-err
returns-in_default-clause-err c = c.held.ensures.err
