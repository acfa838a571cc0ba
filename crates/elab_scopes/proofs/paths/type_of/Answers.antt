-- A path whose first name is no local one.
use Rattle.std.proofs.Common.{sym, ◌∙◌}
use Rattle.elab_scopes.proofs.Outside.{module_type, outside_type}
use Rattle.elab_scopes.proofs.paths.type_of.Goals as goal

pub returns-in-None : goal.returns-in-None
returns-in-None c = outside_type c.args.scope.now _ c.args.path.now _ c.seen.result _ c.in-len1.len_at_least c.in-len1.len_below (sym c.type_name.ensures ∙ c.in-None.is) c.seen.ensures c.type_named.ensures

pub returns-in-len2-up : goal.returns-in-len2-up
returns-in-len2-up c = module_type c.args.scope.now _ c.args.path.now _ _ c.seen-in-len2-up.result _ _ c.in-len2-up.len_at_least c.seen-in-len2-up.ensures c.modules_seen.ensures c.type_behind.ensures
