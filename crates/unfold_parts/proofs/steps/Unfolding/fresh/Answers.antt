use Rattle.unfold_parts.specs.Layouts.{not_renewed}
use Rattle.unfold_parts.proofs.Naming.{renewed_ok, renewed_err}
use Rattle.unfold_parts.proofs.Refusing.{only_memory}
use Rattle.unfold_parts.proofs.steps.Unfolding.fresh.Goals as goal

pub returns-in-Ok-names_between-clause-fresh : goal.returns-in-Ok-names_between-clause-fresh
returns-in-Ok-names_between-clause-fresh c = renewed_ok _ _ _ _ c.in-Ok.ensures.ok c.in-Ok-names_between.ensures.ok

pub returns-in-Err-clause-fresh : goal.returns-in-Err-clause-fresh
returns-in-Err-clause-fresh c = renewed_err _ _ _ _ c.in-Err.ensures.err

pub returns-in-Err-names_between-clause-fresh : goal.returns-in-Err-names_between-clause-fresh
returns-in-Err-names_between-clause-fresh c = not_renewed (only_memory c.in-Err-names_between.ensures.err)
