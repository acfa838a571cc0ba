-- The type behind the sign.
use Rattle.std.proofs.Common.{max, ◌≡◌, ◌≤◌, ◌+◌, suc, sym, refl, subst, ◌∙◌, arith}
use Rattle.std.specs.Result.{IfOk}
use Rattle.fut_grammar.specs.Phrases.{phrases, once_at}
use Rattle.fut_grammar.specs.Reading.{parts_at, has_at, expect, sub_at, suffix_at}
use Rattle.parse_types.specs.Found.{tree_found}
use Rattle.parse_types.proofs.ReadLaws.{above, below, fails_as, high_as, when_err, when_ok}
use Rattle.parse_types.proofs.patterns.type_behind.Goals as goal

pub returns-in-Ok-whole_type-clause-exact : goal.returns-in-Ok-whole_type-clause-exact
unfolding once_at expect suffix_at parts_at has_at sub_at phrases
returns-in-Ok-whole_type-clause-exact c m given =
    let one : suc (max c.in-Ok.pattern.height c.in-Ok-whole_type.ty.height) ≡ c.greater-height.result + 1 = omega (arith, c.greater-height.ensures) in
    rw (when_ok tree_found m c.in-Ok.is given, sym c.starts_with.ensures ∙ c.if-not-starts_with.false, below c.if-pattern-inner.false, sym c.rest_of.ensures, c.in-Ok-whole_type.ensures.exact, one) c.made.ensures

pub returns-in-Ok-whole_type-clause-low : goal.returns-in-Ok-whole_type-clause-low
returns-in-Ok-whole_type-clause-low c =
    high_as _ c.made.result _ _ c.made.ensures (omega (arith, c.if-pattern-inner.false, c.greater-height.ensures, c.in-Ok-whole_type.ensures.low))

pub returns-in-Err-whole_type-clause-exact : goal.returns-in-Err-whole_type-clause-exact
unfolding once_at expect suffix_at parts_at has_at sub_at phrases
returns-in-Err-whole_type-clause-exact c m given =
    fails_as c.in-Err-whole_type.stop c.in-Err-whole_type.ensures.exact (λ f read. rw (when_ok tree_found m c.in-Ok.is given, sym c.starts_with.ensures ∙ c.if-not-starts_with.false, below c.if-pattern-inner.false, sym c.rest_of.ensures, read) refl)

pub returns-then-pattern-inner-clause-exact : goal.returns-then-pattern-inner-clause-exact
unfolding once_at expect suffix_at parts_at has_at sub_at phrases
returns-then-pattern-inner-clause-exact c m given =
    rw (when_ok tree_found m c.in-Ok.is given, sym c.starts_with.ensures ∙ c.if-not-starts_with.false, above c.if-pattern-inner.true) refl

pub returns-then-not-starts_with-clause-exact : goal.returns-then-not-starts_with-clause-exact
unfolding once_at expect suffix_at parts_at has_at sub_at phrases
returns-then-not-starts_with-clause-exact c m given = rw (when_ok tree_found m c.in-Ok.is given, sym c.starts_with.ensures ∙ c.if-not-starts_with.true) refl

pub returns-then-not-starts_with-clause-low : goal.returns-then-not-starts_with-clause-low
returns-then-not-starts_with-clause-low c = subst (λ r. IfOk r (λ x. x.height ≤ c.args.inner + 1)) c.in-Ok.is c.requires.1

pub returns-in-Err-clause-exact : goal.returns-in-Err-clause-exact
returns-in-Err-clause-exact c m given = fails_as c.in-Err.stop (when_err tree_found m c.in-Err.is given) (λ f read. rw read refl)
