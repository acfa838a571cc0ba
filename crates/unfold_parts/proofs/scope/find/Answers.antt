use Rattle.std.proofs.Common.{sym, ◌∙◌}
use Rattle.unfold_parts.proofs.Finding.{local_is, find_here, find_odd, find_even}
use Rattle.unfold_parts.proofs.scope.find.Goals as goal

pub loop-current-init : goal.loop-current-init
loop-current-init c = local_is _ _ _

pub returns-then-bind-number : goal.returns-then-bind-number
returns-then-bind-number c = sym (c.loop-current.invariant ∙ find_here _ _ _ _ _ _ _ c.in-Bind.is c.if-bind-number.true)

pub loop-current-preserved : goal.loop-current-preserved
loop-current-preserved c = elim c.if-digits-eq1.branch [
  | goal.then-digits-eq1 v ↦ rw v.current-is (c.loop-current.invariant ∙ find_odd _ _ _ _ _ _ _ c.in-Bind.is v.if-digits-eq1.true c.if-bind-number.false)
  | goal.else-digits-eq1 v ↦ rw v.current-is (c.loop-current.invariant ∙ find_even _ _ _ _ _ _ _ c.in-Bind.is v.if-digits-eq1.false c.if-bind-number.false)
]
