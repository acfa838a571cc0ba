use Rattle.elab_laws.proofs.Uses.{uses_are_told}
use Rattle.elab_laws.proofs.uses_are_told.Goals as goal

pub returns : goal.returns
returns c = uses_are_told
