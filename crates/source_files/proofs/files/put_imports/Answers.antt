use Rattle.module_state.specs.Written.{file_of}
use Rattle.source_files.proofs.Putting.{put_all}
use Rattle.source_files.proofs.files.put_imports.Goals as goal

pub returns : goal.returns
returns c = put_all c.put_paths.result (file_of c.args.file) c.in_ok-texts.texts.now _ _ c.in_ok-texts.ensures c.put_paths.ensures
