-- A path whose first name is local, and one whose first name is not.
use Rattle.std.proofs.Common.{sym, ◌∙◌}
use Rattle.elab_scopes.proofs.Outside.{local_value, outside_value}
use Rattle.elab_scopes.proofs.paths.value_of.Goals as goal

pub returns-in-Some : goal.returns-in-Some
returns-in-Some c = local_value c.args.scope.now _ c.args.path.now _ _ c.in-len1-up.len_at_least (sym c.value.ensures ∙ c.in-Some.is)

pub returns-in-None : goal.returns-in-None
returns-in-None c = outside_value c.args.scope.now _ c.args.path.now _ c.seen.result _ _ c.in-len1-up.len_at_least (sym c.value.ensures ∙ c.in-None.is) c.seen.ensures c.modules_seen.ensures c.value_named.ensures
