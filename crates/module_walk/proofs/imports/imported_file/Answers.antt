use Rattle.module_state.specs.Written.{files_of}
use Rattle.module_walk.proofs.ImportLaws.{names_file}
use Rattle.module_walk.proofs.imports.imported_file.Goals as goal

pub returns-in-Ok : goal.returns-in-Ok
returns-in-Ok c = names_file (files_of c.args.sources.files.now) c.args.from c.args.name.now _ c.in-Ok.path.now c.file_number.result c.path_of.ensures c.in-Ok.ensures c.file_number.ensures
