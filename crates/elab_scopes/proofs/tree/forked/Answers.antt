use Rattle.elab_scopes.proofs.Trees.{forks_as}
use Rattle.elab_scopes.proofs.tree.forked.Goals as goal

pub returns-in-Ok : goal.returns-in-Ok
returns-in-Ok c = forks_as _ _ c.in-Ok.ensures
