use Rattle.unify.proofs.General.{generals}
use Rattle.unify.proofs.solved_substitutions_are_most_general.Goals as goal

pub returns : goal.returns
returns c = generals
