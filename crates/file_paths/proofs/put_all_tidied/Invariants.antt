-- What is left behind the path so far.
use Rattle.std.proofs.Common.{◌≡◌, [], drop}
use Rattle.fut_tree.specs.Names.{names}
use Rattle.elab_scopes.specs.Imports.{tidied}
use Rattle.file_paths.specs.Segments.{newest}
use Rattle.file_paths.proofs.put_all_tidied.Given as goal

abbrev pub invariant-loop-segment : goal.invariant-loop-segment
invariant-loop-segment l = tidied (newest l.path.items) (names (drop l.segment-index l.fn.segments)) ≡ tidied [] (names l.fn.segments)
