-- A name, a colon and a type.
use Rattle.std.proofs.Common.{sym, refl, ◌∙◌}
use Rattle.std.proofs.Math.Nat.{zero-max}
use Rattle.fut_grammar.specs.Phrases.{phrases, items, bounded, ended, flat_at}
use Rattle.fut_grammar.specs.Reading.{row_at, parts_at, has_at, expect, sub_at, refuse_sort}
use Rattle.parse_types.proofs.ReadLaws.{fails_as}
use Rattle.parse_types.proofs.types.AnyReadItemTypeField.item.Goals as goal

pub returns-in-Ok-clause-exact : goal.returns-in-Ok-clause-exact
unfolding row_at parts_at has_at expect sub_at items phrases bounded ended flat_at refuse_sort
returns-in-Ok-clause-exact g c =
    rw (sym c.starts_with_word.ensures ∙ c.if-not-starts_with_word.false, c.next_word-name.ensures, sym c.rest_of-rest.ensures, sym c.starts_with.ensures ∙ c.if-not-starts_with.false, sym c.rest_of.ensures, c.in-Ok.ensures.0, zero-max c.in-Ok.field-0.height) refl

pub returns-then-not-starts_with-clause-exact : goal.returns-then-not-starts_with-clause-exact
unfolding row_at parts_at has_at expect sub_at items phrases bounded ended flat_at refuse_sort
returns-then-not-starts_with-clause-exact g c =
    rw (sym c.starts_with_word.ensures ∙ c.if-not-starts_with_word.false, c.next_word-name.ensures, sym c.rest_of-rest.ensures, sym c.starts_with.ensures ∙ c.if-not-starts_with.true, c.refused-then-not-starts_with.ensures) refl

pub returns-in-Err-clause-exact : goal.returns-in-Err-clause-exact
unfolding row_at parts_at has_at expect sub_at items phrases bounded ended flat_at refuse_sort
returns-in-Err-clause-exact g c =
    fails_as c.in-Err.stop c.in-Err.ensures.0 (λ f read. rw (sym c.starts_with_word.ensures ∙ c.if-not-starts_with_word.false, c.next_word-name.ensures, sym c.rest_of-rest.ensures, sym c.starts_with.ensures ∙ c.if-not-starts_with.false, sym c.rest_of.ensures, read) refl)

pub returns-then-not-starts_with_word-clause-exact : goal.returns-then-not-starts_with_word-clause-exact
unfolding row_at parts_at has_at expect sub_at items phrases bounded ended flat_at refuse_sort
returns-then-not-starts_with_word-clause-exact g c = rw (sym c.starts_with_word.ensures ∙ c.if-not-starts_with_word.true, c.refused.ensures) refl

pub returns-in-Ok-clause-low : goal.returns-in-Ok-clause-low
returns-in-Ok-clause-low g c = c.in-Ok.ensures.1
