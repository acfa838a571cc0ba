-- A field must begin here, and no sign of one may stand behind it.
use Rattle.std.proofs.Common.{sym, refl, subst, ◌∙◌, arith}
use Rattle.fut_ast.specs.Sorts.{Pat_field, Tree, Whole_pat}
use Rattle.fut_grammar.specs.Phrases.{phrases, items, read_at, bounded, ended, flat_at, pat_field_at}
use Rattle.fut_grammar.specs.Reading.{Gives, refuse_sort, row_at, parts_at, has_at, expect, sub_at}
use Rattle.parse_types.specs.Found.{found_as}
use Rattle.parse_types.proofs.ReadLaws.{low_as}
use Rattle.parse_types.proofs.SortLaws.{field_as, short_as}
use Rattle.parse_types.proofs.patterns.AnyReadItemPatField.item.Goals as goal

pub returns-then-starts_with-clause-exact : goal.returns-then-starts_with-clause-exact
unfolding phrases bounded ended flat_at pat_field_at refuse_sort row_at parts_at has_at expect sub_at items
returns-then-starts_with-clause-exact g c =
    let equal = sym c.starts_with.ensures ∙ c.if-starts_with.true in
    rw (sym c.starts_with_word.ensures ∙ c.if-not-starts_with_word.false, sym c.rest_of-behind.ensures, equal, c.next_word-name.ensures, sym c.rest_of-behind.ensures, equal, sym c.rest_of.ensures) (subst (λ m. Gives (found_as {Y = Tree Pat_field} (λ f. (f.name.now, f.pat.now))) c.set_field.result m) (field_as c.next_word-name.result.now (read_at c.args.inner Whole_pat c.rest_of.result.now)) (c.set_field.ensures.exact (read_at c.args.inner Whole_pat c.rest_of.result.now) c.whole.ensures.exact))

pub returns-then-starts_with-clause-low : goal.returns-then-starts_with-clause-low
returns-then-starts_with-clause-low g c = c.set_field.ensures.low _ c.whole.ensures.low

pub returns-else-starts_with-clause-exact : goal.returns-else-starts_with-clause-exact
unfolding phrases bounded ended flat_at pat_field_at refuse_sort
returns-else-starts_with-clause-exact g c =
    let none = sym c.starts_with.ensures ∙ c.if-starts_with.false in
    rw (sym c.starts_with_word.ensures ∙ c.if-not-starts_with_word.false, sym c.rest_of-behind.ensures, none) (subst (λ m. Gives (found_as {Y = Tree Pat_field} (λ f. (f.name.now, f.pat.now))) c.short_field.result m) (sym (short_as (items (read_at c.args.inner)) c.args.tokens.now c.rest_of-behind.result.now c.next_word-name.result.now (rw c.rest_of-behind.ensures c.next_word-name.ensures) none)) (c.short_field.ensures.exact c.args.inner))

pub returns-else-starts_with-clause-low : goal.returns-else-starts_with-clause-low
returns-else-starts_with-clause-low g c = low_as c.short_field.result c.short_field.ensures.low (omega arith)

pub returns-then-not-starts_with_word-clause-exact : goal.returns-then-not-starts_with_word-clause-exact
unfolding phrases bounded ended flat_at refuse_sort
returns-then-not-starts_with_word-clause-exact g c = rw (sym c.starts_with_word.ensures ∙ c.if-not-starts_with_word.true, c.refused.ensures) refl
