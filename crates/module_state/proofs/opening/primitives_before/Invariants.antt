-- So many of the primitives are left to be put before the older members.
use Rattle.std.proofs.Common.{◌≡◌, ◌++◌, ◌≤◌, map, drop, length}
use Rattle.elab_scopes.specs.Declarations.{primitive_member}
use Rattle.module_state.proofs.opening.primitives_before.Given as goal

abbrev pub invariant-loop-left : goal.invariant-loop-left
invariant-loop-left l = (l.all.members.now ≡ map primitive_member (drop l.left l.fn.primitives) ++ l.fn.older) × (l.left ≤ length l.fn.primitives)

abbrev pub decreases-loop-left : goal.decreases-loop-left
decreases-loop-left l = l.left
