use Rattle.std.proofs.Common.{refl}
use Rattle.elab_scopes.specs.Declarations.{walks}
use Rattle.elab_scopes.specs.Held.{module_ref_of}
use Rattle.module_state.specs.Written.{files_of}
use Rattle.module_state.proofs.Stands.{told}
use Rattle.module_walk.specs.Steps.{both_files}
use Rattle.module_walk.proofs.Calling.{declares, nothing_yet, refuses_all}
use Rattle.module_walk.proofs.call.declared_files.Goals as goal

pub returns-in-Ok-both_files : goal.returns-in-Ok-both_files
returns-in-Ok-both_files c = declares (files_of c.args.sources.files.now) c.args.depth _ c.both_files.new.state (nothing_yet _ c.new.ensures.made c.new.ensures.modules c.new.ensures.locals c.new-2.ensures c.new-3.ensures c.new-4.ensures.items refl c.in-Ok.ensures c.new-5.ensures) c.in-Ok-both_files.made (told module_ref_of (both_files (walks (files_of c.args.sources.files.now) c.args.depth)) c.in-Ok-both_files.is c.both_files.ensures)

pub returns : goal.returns
returns c = refuses_all (files_of c.args.sources.files.now) c.args.depth _ c.both_files.new.state (nothing_yet _ c.new.ensures.made c.new.ensures.modules c.new.ensures.locals c.new-2.ensures c.new-3.ensures c.new-4.ensures.items refl c.in-Ok.ensures c.new-5.ensures) c.in-Err-both_files.stop (told module_ref_of (both_files (walks (files_of c.args.sources.files.now) c.args.depth)) c.in-Err-both_files.is c.both_files.ensures)
