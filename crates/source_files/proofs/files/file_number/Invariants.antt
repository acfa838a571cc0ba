-- The file is among those that were not looked at.
use Rattle.std.proofs.Common.{◌≡◌, ◌-◌, drop, length}
use Rattle.elab_scopes.specs.Imports.{file_number}
use Rattle.module_state.specs.Written.{files_of}
use Rattle.source_files.proofs.Finding.{later}
use Rattle.source_files.proofs.files.file_number.Given as goal

abbrev pub invariant-loop-at : goal.invariant-loop-at
invariant-loop-at l = file_number (files_of l.files) l.path ≡ later l.at (file_number (files_of (drop l.at l.files)) l.path)

abbrev pub decreases-loop-at : goal.decreases-loop-at
decreases-loop-at l = length l.files - l.at
