-- So many members are left to be looked at.
use Rattle.std.proofs.Common.{◌≡◌, ◌++◌, ◌≤◌, map, drop, length}
use Rattle.elab_scopes.specs.Declarations.{seen_later}
use Rattle.elab_scopes.specs.Held.{member_of}
use Rattle.module_members.proofs.including.all_seen.Given as goal

abbrev pub invariant-loop-left : goal.invariant-loop-left
invariant-loop-left l = (l.all.members.now ≡ seen_later (map member_of (drop l.left l.fn.members)) ++ l.fn.older) × (l.left ≤ length l.fn.members)

abbrev pub decreases-loop-left : goal.decreases-loop-left
decreases-loop-left l = l.left
