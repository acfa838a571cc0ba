use Rattle.std.proofs.Common.{◌≡◌}
use Rattle.unfold.specs.Held.{names_of, scope_of}
use Rattle.unfold.specs.declared.known.Names.{size-Names}
use Rattle.unfold.specs.Knowns.{local_by, local}
use Rattle.unfold_parts.proofs.scope.find.Given as goal

abbrev pub invariant-loop-current : goal.invariant-loop-current
invariant-loop-current l = local (scope_of l.scope) l.number.0 ≡ local_by l.digits (names_of l.current) l.number.0

abbrev pub decreases-loop-current : goal.decreases-loop-current
decreases-loop-current l = size-Names l.current
