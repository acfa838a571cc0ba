-- All paths that were taken are known.
use Rattle.std.proofs.Common.{length, reverse}
use Rattle.fut_ast.specs.Sorts.{Text}
use Rattle.fut_tree.specs.Names.{names}
use Rattle.module_state.specs.Written.{files_of}
use Rattle.source_files.specs.Reading.{Reading}
use Rattle.source_files.proofs.files.next_unknown.Given as goal

abbrev pub invariant-loop-path : goal.invariant-loop-path
invariant-loop-path l = (file : Text) → Reading file (files_of l.files.items) (reverse (names l.fn.pending)) → Reading file (files_of l.files.items) (reverse (names l.pending))

abbrev pub decreases-loop-path : goal.decreases-loop-path
decreases-loop-path l = length l.pending
