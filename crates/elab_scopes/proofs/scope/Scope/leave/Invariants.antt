use Rattle.std.proofs.Common.{◌≡◌, take, length}
use Rattle.elab_scopes.proofs.scope.Scope.leave.Given as goal

abbrev pub invariant-loop-self : goal.invariant-loop-self
invariant-loop-self l = take l.height l.self ≡ take l.height l.fn.self

abbrev pub decreases-loop-self : goal.decreases-loop-self
decreases-loop-self l = length l.self
