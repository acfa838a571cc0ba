use Rattle.source_files.proofs.One.{read_once, read_or_stopped}
use Rattle.source_files.proofs.laws.told_files_are_read_once.Goals as goal

pub returns-clause-once : goal.returns-clause-once
returns-clause-once c = read_once

pub returns-clause-stopped : goal.returns-clause-stopped
returns-clause-stopped c = read_or_stopped
