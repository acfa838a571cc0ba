-- So many of the newer members are left to be put before the older ones.
use Rattle.std.proofs.Common.{◌≡◌, ◌++◌, ◌≤◌, map, drop, length}
use Rattle.elab_scopes.specs.Held.{member_of}
use Rattle.elab_scopes.proofs.members.joined.Given as goal

abbrev pub invariant-loop-left : goal.invariant-loop-left
invariant-loop-left l = (l.all.members.now ≡ map member_of (drop l.left l.listed) ++ l.fn.older) × (l.left ≤ length l.listed)

abbrev pub decreases-loop-left : goal.decreases-loop-left
decreases-loop-left l = l.left
