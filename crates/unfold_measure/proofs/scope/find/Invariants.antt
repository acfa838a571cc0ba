use Rattle.std.proofs.Common.{◌≡◌}
use Rattle.fut_meaning.specs.Knowns.{find_by, find}
use Rattle.unfold_measure.specs.Held.{scope_of}
use Rattle.unfold_measure.specs.declared.known.Scope.{size-Scope}
use Rattle.unfold_measure.proofs.scope.find.Given as goal

abbrev pub invariant-loop-current : goal.invariant-loop-current
invariant-loop-current l = find (scope_of l.scope) l.number.0 ≡ find_by l.digits (scope_of l.current) l.number.0

abbrev pub decreases-loop-current : goal.decreases-loop-current
decreases-loop-current l = size-Scope l.current
