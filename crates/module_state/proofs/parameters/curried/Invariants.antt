-- What is behind the parameters that are left.
use Rattle.std.proofs.Common.{◌≡◌, ◌≤◌, length}
use Rattle.fut_tree.specs.Names.{maybe}
use Rattle.module_state.proofs.Currying.{body_at, seal_at}
use Rattle.module_state.proofs.parameters.curried.Given as goal

abbrev pub invariant-loop-left : goal.invariant-loop-left
invariant-loop-left l = (l.behind.body.now ≡ body_at l.fn.at l.fn.params (maybe l.fn.seal) l.fn.body l.left) × (maybe l.behind.seal ≡ seal_at l.fn.at l.fn.params (maybe l.fn.seal) l.fn.body l.left) × (l.left ≤ length l.fn.params)

abbrev pub decreases-loop-left : goal.decreases-loop-left
decreases-loop-left l = l.left
