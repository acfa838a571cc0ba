-- The rows of the files so far.
use Rattle.std.proofs.Common.{◌-◌, length}
use Rattle.module_state.specs.Written.{files_of}
use Rattle.import_rows.proofs.Rows.{Rows_to}
use Rattle.import_rows.proofs.import_rows.Given as goal

abbrev pub invariant-loop-at : goal.invariant-loop-at
invariant-loop-at l = Rows_to (files_of l.files) l.rows.items l.at

abbrev pub decreases-loop-at : goal.decreases-loop-at
decreases-loop-at l = length l.files - l.at
