use Rattle.elab_scopes.specs.Declarations.{walks}
use Rattle.elab_scopes.specs.Held.{module_ref_of}
use Rattle.module_state.specs.Written.{files_of}
use Rattle.module_walk.proofs.Calling.{starts}
use Rattle.module_walk.proofs.call.second_file.Goals as goal

pub returns-in-Ok-members_in : goal.returns-in-Ok-members_in
returns-in-Ok-members_in c = starts (walks (files_of c.args.sources.files.now) c.args.depth) (module_ref_of c.args.prelude) _ c.in-Ok.contents _ c.modules.ensures c.in-Ok.ensures.ok c.in-Ok-members_in.ensures.ok c.start_with.ensures c.file_of.ensures
