-- So many of the texts are left to be put before the older paths.
use Rattle.std.proofs.Common.{◌≡◌, ◌++◌, ◌≤◌, map, drop, length, reverse}
use Rattle.fut_tree.specs.Names.{names}
use Rattle.elab_scopes.specs.Imports.{imported_path}
use Rattle.source_files.proofs.files.put_paths.Given as goal

abbrev pub invariant-loop-left : goal.invariant-loop-left
invariant-loop-left l = (reverse (names l.pending) ≡ map (imported_path l.from) (names (drop l.left l.texts)) ++ reverse (names l.fn.pending)) × (l.left ≤ length l.texts)

abbrev pub decreases-loop-left : goal.decreases-loop-left
decreases-loop-left l = l.left
