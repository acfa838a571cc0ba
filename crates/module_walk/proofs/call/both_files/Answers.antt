use Rattle.elab_scopes.specs.Declarations.{walks}
use Rattle.elab_scopes.specs.Held.{module_ref_of}
use Rattle.module_state.specs.Written.{files_of}
use Rattle.module_members.proofs.Steps.{goes, halts}
use Rattle.module_walk.specs.Steps.{second_file}
use Rattle.module_walk.proofs.call.both_files.Goals as goal

pub returns-in-Ok : goal.returns-in-Ok
returns-in-Ok c = goes module_ref_of module_ref_of ((walks (files_of c.args.sources.files.now) c.args.depth).file_of 0) (second_file (walks (files_of c.args.sources.files.now) c.args.depth)) c.in-Ok.is c.file_of.ensures c.second_file.ensures

pub returns-in-Err : goal.returns-in-Err
returns-in-Err c = halts module_ref_of module_ref_of ((walks (files_of c.args.sources.files.now) c.args.depth).file_of 0) (second_file (walks (files_of c.args.sources.files.now) c.args.depth)) c.in-Err.is c.file_of.ensures
