use Rattle.source_files.proofs.Steps.{told_path}
use Rattle.source_files.proofs.files.read_next.Goals as goal

pub returns-in-Err-clause-err : goal.returns-in-Err-clause-err
returns-in-Err-clause-err g c = told_path _ _ _ _ _ _ c.in-Ok.ensures c.in-Err.ensures.err
