-- The sign stands there or it does not.
use Rattle.std.proofs.Common.{Result, Ok, Err, sym, ◌∙◌}
use Rattle.std.specs.Prelude.{IfOk}
use Rattle.parse_module_types.proofs.tie.whole_behind.Goals as goal

pub returns-then-not-starts_with : goal.returns-then-not-starts_with
returns-then-not-starts_with g c = record { sign = tt; exact = rw (sym c.starts_with.ensures ∙ c.if-not-starts_with.true, c.refused.ensures); low = tt }

always : {A E : Type 0} {P : Type 0} (r : Result A E) → P → IfOk r (λ x. P)
always (Ok x) p = p
always (Err e) p = tt

pub returns : goal.returns
returns g c =
    let sign = sym c.starts_with.ensures ∙ c.if-not-starts_with.false in
    record { sign = always c.whole.result sign; exact = rw (sign, sym c.rest_of.ensures) c.whole.ensures.exact; low = c.whole.ensures.low }
