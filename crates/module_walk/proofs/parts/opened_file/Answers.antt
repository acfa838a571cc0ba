use Rattle.elab_scopes.specs.Held.{module_ref_of}
use Rattle.module_state.specs.Standing.{block_of}
use Rattle.module_walk.proofs.PartLaws.{members_open, parametric_opens}
use Rattle.module_walk.proofs.parts.opened_file.Goals as goal

pub returns-in-Members : goal.returns-in-Members
returns-in-Members c = members_open (module_ref_of c.args.of) _ c.modules.ensures c.in-Ok.contents c.in-Ok.ensures.ok c.args.at c.args.name (block_of c.args.block) c.in-Members.members c.brought.result c.in-Members.is c.brought.ensures.ok c.brought.ensures.err

pub returns-in-Parametric : goal.returns-in-Parametric
returns-in-Parametric c = parametric_opens (module_ref_of c.args.of) _ c.modules.ensures c.in-Ok.contents c.in-Ok.ensures.ok c.args.at c.args.name (block_of c.args.block) _ c.in-Parametric.is
