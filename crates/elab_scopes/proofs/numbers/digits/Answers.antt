use Rattle.std.proofs.Common.{◌∙◌}
use Rattle.elab_scopes.proofs.Bytes.{goes_on}
use Rattle.elab_scopes.proofs.numbers.digits.Goals as goal

pub loop-byte-preserved : goal.loop-byte-preserved
loop-byte-preserved c = goes_on _ _ _ c.loop-byte-test.true ∙ c.loop-byte.invariant
