use Rattle.std.proofs.Common.{subst}
use Rattle.elab_scopes.specs.Trees.{Put_by}
use Rattle.elab_scopes.proofs.Trees.{if_ok, put_whole}
use Rattle.elab_scopes.proofs.tree.with_name.Goals as goal

pub returns : goal.returns
returns c = if_ok _ (λ t p. put_whole _ _ _ _ (subst (λ n. Put_by n c.args.name.now c.args.meanings c.args.tree t) c.digits.ensures p)) c.put.ensures
