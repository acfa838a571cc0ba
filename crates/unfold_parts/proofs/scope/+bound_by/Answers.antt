use Rattle.std.proofs.Common.{sym, ◌∙◌, ap}
use Rattle.unfold.specs.Held.{known_of, names_of}
use Rattle.unfold.specs.Knowns.{branch}
use Rattle.unfold_parts.proofs.Finding.{ok_as, bound_here, bound_odd, bound_even}
use Rattle.unfold_parts.proofs.scope.+bound_by.Goals as goal

pub returns-then-other-bind-clause-ok : goal.returns-then-other-bind-clause-ok
returns-then-other-bind-clause-ok t c = ok_as c.root-then-other-bind.result c.root-then-other-bind.ensures.ok (sym (bound_here _ _ _ _ _ _ _ _ c.in-Bind.is c.if-other-bind.true))

pub returns-in-Ok-clause-ok : goal.returns-in-Ok-clause-ok
returns-in-Ok-clause-ok t c = ok_as c.root-in-Ok.result c.root-in-Ok.ensures.ok (ap (λ z. branch c.in-Bind.other (known_of c.in-Bind.held) (names_of c.in-Bind.even.now) z) c.in-Ok.ensures.ok ∙ sym (bound_odd _ _ _ _ _ _ _ _ c.in-Bind.is c.if-digits-eq1.true c.if-other-bind.false))

pub returns-in-Ok-bound_by-clause-ok : goal.returns-in-Ok-bound_by-clause-ok
returns-in-Ok-bound_by-clause-ok t c = ok_as c.root-in-Ok-bound_by.result c.root-in-Ok-bound_by.ensures.ok (ap (λ z. branch c.in-Bind.other (known_of c.in-Bind.held) z (names_of c.in-Bind.odd.now)) c.in-Ok-bound_by.ensures.ok ∙ sym (bound_even _ _ _ _ _ _ _ _ c.in-Bind.is c.if-digits-eq1.false c.if-other-bind.false))

pub returns-then-other-bind-clause-err : goal.returns-then-other-bind-clause-err
returns-then-other-bind-clause-err t c = c.root-then-other-bind.ensures.err

pub returns-in-Ok-clause-err : goal.returns-in-Ok-clause-err
returns-in-Ok-clause-err t c = c.root-in-Ok.ensures.err

pub returns-in-Ok-bound_by-clause-err : goal.returns-in-Ok-bound_by-clause-err
returns-in-Ok-bound_by-clause-err t c = c.root-in-Ok-bound_by.ensures.err

pub returns-in-Err-clause-ok : goal.returns-in-Err-clause-ok
returns-in-Err-clause-ok t c = tt

pub returns-in-Err-clause-err : goal.returns-in-Err-clause-err
returns-in-Err-clause-err t c = c.in-Err.ensures.err

pub returns-in-Err-bound_by-clause-ok : goal.returns-in-Err-bound_by-clause-ok
returns-in-Err-bound_by-clause-ok t c = tt

pub returns-in-Err-bound_by-clause-err : goal.returns-in-Err-bound_by-clause-err
returns-in-Err-bound_by-clause-err t c = c.in-Err-bound_by.ensures.err
