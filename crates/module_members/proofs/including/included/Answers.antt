use Rattle.module_state.specs.Standing.{specified_of}
use Rattle.module_members.proofs.SeenLaws.{members_included, parametric_included}
use Rattle.module_members.proofs.including.included.Goals as goal

pub returns-in-Members : goal.returns-in-Members
returns-in-Members c = λ d. members_included c.args.ty.now (specified_of c.args.before) d c.args.contents c.in-Members.members c.all_specified.result c.in-Members.is c.all_specified.ensures.ok c.all_specified.ensures.err

pub returns-in-Ok : goal.returns-in-Ok
returns-in-Ok c = λ d. parametric_included c.args.ty.now (specified_of c.args.before) d c.args.contents _ c.ty.inside _ c.in-Parametric.is c.ty.view_is c.in-Ok.ensures.ok
