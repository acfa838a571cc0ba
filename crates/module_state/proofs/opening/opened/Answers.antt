use Rattle.elab_scopes.specs.Held.{module_ref_of}
use Rattle.module_state.specs.Standing.{block_of}
use Rattle.module_state.proofs.Namings.{function_place, stopped}
use Rattle.module_state.proofs.Openings.{members_open, parametric_open}
use Rattle.module_state.proofs.opening.opened.Goals as goal

pub returns-in-Err : goal.returns-in-Err
returns-in-Err c = stopped c.in-Err.ensures.err

pub returns-in-Members : goal.returns-in-Members
returns-in-Members c = members_open c.args.is_local c.args.body.now (module_ref_of c.args.of) (block_of c.args.block) c.args.state.now c.in-Ok.contents _ c.modules.ensures c.in-Ok.ensures.ok c.in-Members.members _ c.in-Members.is c.brought.ensures.ok c.brought.ensures.err

pub returns-in-Ok-called : goal.returns-in-Ok-called
returns-in-Ok-called c = parametric_open c.args.is_local c.args.body.now (module_ref_of c.args.of) (block_of c.args.block) c.args.state.now c.in-Ok.contents _ c.modules.ensures c.in-Ok.ensures.ok _ _ _ c.in-Parametric.is c.in-Ok-called.ensures.ok (function_place c.body.inside c.args.body.now c.body.view_is)

pub returns-in-Err-called : goal.returns-in-Err-called
returns-in-Err-called c = stopped c.in-Err-called.ensures.err
