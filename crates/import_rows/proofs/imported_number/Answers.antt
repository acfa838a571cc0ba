use Rattle.source_files.proofs.Finding.{path_there}
use Rattle.import_rows.proofs.Rows.{named_number}
use Rattle.import_rows.proofs.imported_number.Goals as goal

pub returns : goal.returns
returns c = named_number c.args.files.now c.args.from c.args.text.now _ c.in_ok-path.path.now c.number_at.result (path_there c.args.files.now c.args.from c.index-files-from.result c.requires) c.in_ok-path.ensures c.number_at.ensures
