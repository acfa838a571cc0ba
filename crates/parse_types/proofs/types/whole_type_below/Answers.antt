-- A type without an arrow at its top, and the type behind the arrow; or a parameter with a name.
use Rattle.std.proofs.Common.{max, ◌≡◌, ◌+◌, suc, sym, ap, refl, ◌∙◌, arith}
use Rattle.fut_ast.specs.declared.node.Spot.{Spot}
use Rattle.fut_grammar.specs.Phrases.{phrases, once_at, whole_type_at}
use Rattle.fut_grammar.specs.Reading.{parts_at, has_at, expect, sub_at, suffix_at}
use Rattle.parse_types.proofs.ReadLaws.{above, below, fails_as, high_as}
use Rattle.parse_types.proofs.types.whole_type_below.Goals as goal

pub named_arrow-requires : goal.named_arrow-requires
named_arrow-requires g c k = ((refl, tt), (c.requires.law, (sym c.begins_named_arrow.ensures ∙ c.if-begins_named_arrow.true, c.requires.room)))

pub returns-then-begins_named_arrow-clause-exact : goal.returns-then-begins_named_arrow-clause-exact
unfolding whole_type_at
returns-then-begins_named_arrow-clause-exact g c = rw (sym c.begins_named_arrow.ensures ∙ c.if-begins_named_arrow.true) c.named_arrow.ensures.exact

pub returns-in-Err-clause-exact : goal.returns-in-Err-clause-exact
unfolding whole_type_at
returns-in-Err-clause-exact g c =
    fails_as c.in-Err.stop c.in-Err.ensures.exact (λ f read. rw (sym c.begins_named_arrow.ensures ∙ c.if-begins_named_arrow.false, read) refl)

pub returns-then-not-starts_with-clause-exact : goal.returns-then-not-starts_with-clause-exact
unfolding whole_type_at once_at expect suffix_at parts_at has_at sub_at phrases
returns-then-not-starts_with-clause-exact g c =
    rw (sym c.begins_named_arrow.ensures ∙ c.if-begins_named_arrow.false, c.in-Ok.ensures.exact, sym c.starts_with.ensures ∙ c.if-not-starts_with.true) refl

pub returns-then-from-inner-clause-exact : goal.returns-then-from-inner-clause-exact
unfolding whole_type_at once_at expect suffix_at parts_at has_at sub_at phrases
returns-then-from-inner-clause-exact g c =
    rw (sym c.begins_named_arrow.ensures ∙ c.if-begins_named_arrow.false, c.in-Ok.ensures.exact, sym c.starts_with.ensures ∙ c.if-not-starts_with.false, above c.if-from-inner.true) refl

pub returns-in-Ok-read-clause-exact : goal.returns-in-Ok-read-clause-exact
unfolding whole_type_at once_at expect suffix_at parts_at has_at sub_at phrases
returns-in-Ok-read-clause-exact g c =
    let place = ap (λ (s : Spot). s.place) (sym c.next_spot.ensures) in
    let one : suc (max c.in-Ok.from.height c.in-Ok-read.to.height) ≡ c.greater-height.result + 1 = omega (arith, c.greater-height.ensures) in
    rw (sym c.begins_named_arrow.ensures ∙ c.if-begins_named_arrow.false, c.in-Ok.ensures.exact, sym c.starts_with.ensures ∙ c.if-not-starts_with.false, below c.if-from-inner.false, sym c.rest_of.ensures, c.in-Ok-read.ensures.0, place, one) c.made.ensures

pub returns-in-Ok-read-clause-low : goal.returns-in-Ok-read-clause-low
returns-in-Ok-read-clause-low g c =
    high_as _ c.made.result _ _ c.made.ensures (omega (arith, c.if-from-inner.false, c.greater-height.ensures, c.in-Ok-read.ensures.1))

pub returns-in-Err-read-clause-exact : goal.returns-in-Err-read-clause-exact
unfolding whole_type_at once_at expect suffix_at parts_at has_at sub_at phrases
returns-in-Err-read-clause-exact g c =
    fails_as c.in-Err-read.stop c.in-Err-read.ensures.0 (λ f read. rw (sym c.begins_named_arrow.ensures ∙ c.if-begins_named_arrow.false, c.in-Ok.ensures.exact, sym c.starts_with.ensures ∙ c.if-not-starts_with.false, below c.if-from-inner.false, sym c.rest_of.ensures, read) refl)
