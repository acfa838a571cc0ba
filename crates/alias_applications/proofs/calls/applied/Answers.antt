use Rattle.std.proofs.Common.{rules, refl, ap, ◌∙◌}
use Rattle.fut_aliases.specs.Calls.{stars_behind}
use Rattle.uniqueness.specs.Held.{helds_of, here_of}
use Rattle.alias_types.specs.Kinds.{kinds_of}
use Rattle.alias_values.specs.Trees.{stars_of, type_of}
use Rattle.alias_applications.proofs.CallForms.{applied_partial, applied_call}
use Rattle.alias_applications.proofs.calls.applied.Goals as goal

pub returns-then-is_arrow : goal.returns-then-is_arrow
returns-then-is_arrow c = λ scope. applied_partial (kinds_of c.args.program.now.kinds.now) (here_of scope c.args.here.now) c.args.node c.args.part.now c.args.arguments.now (stars_of c.stars_behind-rest.result.now) c.args.losses.now _ c.partial.result (c.stars_behind-rest.ensures ∙ ap (stars_behind (helds_of c.args.arguments.now)) c.in-Ok.ensures) (search rules) refl (c.partial.ensures (kinds_of c.args.program.now.kinds.now) scope)

pub returns-else-is_arrow : goal.returns-else-is_arrow
returns-else-is_arrow c = λ scope. applied_call (kinds_of c.args.program.now.kinds.now) (here_of scope c.args.here.now) c.args.node c.args.part.now c.args.arguments.now (stars_of c.stars_behind-rest.result.now) (stars_of c.in-Ok.stars.now) (type_of c.type_behind-ty.result.now) c.args.losses.now _ c.call.result (c.stars_behind-rest.ensures ∙ ap (stars_behind (helds_of c.args.arguments.now)) c.in-Ok.ensures) (search rules) c.in-Ok.ensures c.type_behind-ty.ensures (c.call.ensures scope)
