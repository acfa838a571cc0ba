use Rattle.std.proofs.Common.{ap, ◌∙◌}
use Rattle.fut_tree.specs.Names.{names}
use Rattle.elab_scopes.specs.Scopes.{by_module_type}
use Rattle.elab_scopes.specs.Modules.{names_seen, world}
use Rattle.elab_scopes.proofs.inside.type_behind.Goals as goal

pub returns-in-Some : goal.returns-in-Some
returns-in-Some c = c.type_inside.ensures ∙ ap (by_module_type (world (names_seen c.args.seen) c.args.modules.now) c.args.at c.args.first.now c.args.name.now (names c.args.rest.now)) c.in-Some.ensures

pub returns-in-None : goal.returns-in-None
returns-in-None c = ap (by_module_type (world (names_seen c.args.seen) c.args.modules.now) c.args.at c.args.first.now c.args.name.now (names c.args.rest.now)) c.in-None.ensures
