-- The file is not among those that were looked at.
use Rattle.std.proofs.Common.{◌≡◌, ◌≤◌, length, map, reverse}
use Rattle.elab_scopes.specs.Declarations.{loaded_at}
use Rattle.module_state.specs.Standing.{loaded_of}
use Rattle.module_walk.proofs.FileLaws.{among}
use Rattle.module_walk.proofs.files.loaded_among.Given as goal

abbrev pub invariant-loop-left : goal.invariant-loop-left
invariant-loop-left l = (loaded_at (reverse (map loaded_of l.fn.loaded)) l.fn.number ≡ among l.fn.loaded l.left l.fn.number) × (l.left ≤ length l.fn.loaded)

abbrev pub decreases-loop-left : goal.decreases-loop-left
decreases-loop-left l = l.left
