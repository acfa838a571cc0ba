use Rattle.std.proofs.Common.{ap, ◌∙◌}
use Rattle.fut_tree.specs.Names.{names}
use Rattle.elab_scopes.specs.Scopes.{by_module_signature}
use Rattle.elab_scopes.specs.Modules.{world}
use Rattle.elab_scopes.proofs.inside.signature_behind.Goals as goal

pub returns-in-Some : goal.returns-in-Some
returns-in-Some c = c.signature_inside.ensures ∙ ap (by_module_signature (world c.args.seen.now c.args.modules.now) c.args.at c.args.first.now c.args.name.now (names c.args.rest.now)) c.in-Some.ensures

pub returns-in-None : goal.returns-in-None
returns-in-None c = ap (by_module_signature (world c.args.seen.now c.args.modules.now) c.args.at c.args.first.now c.args.name.now (names c.args.rest.now)) c.in-None.ensures
