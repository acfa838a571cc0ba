-- A size name is no node, and nothing goes on with it.
use Rattle.std.proofs.Common.{sym, refl, ◌∙◌}
use Rattle.fut_token.specs.declared.token.Fixed.TheVariants as fixed
use Rattle.fut_ast.specs.Sorts.{Size_item}
use Rattle.fut_grammar.specs.Phrases.{phrases, items, read_at, bounded, ended, flat_at}
use Rattle.fut_grammar.specs.Reading.{refuse_sort, row_at}
use Rattle.parse_types.proofs.ReadLaws.{fails_as, word_as}
use Rattle.parse_types.proofs.params.SizeNamesReadItemRefStr.item.Goals as goal

pub returns-in-Ok-clause-exact : goal.returns-in-Ok-clause-exact
unfolding phrases bounded ended flat_at row_at
returns-in-Ok-clause-exact c =
    let begun = sym c.starts_with.ensures ∙ c.if-not-starts_with.false in
    rw (word_as (items (read_at c.args.inner)) Size_item fixed.OpenBracket fixed.CloseBracket (λ x. x) c.args.tokens.now begun, begun, sym c.rest_of.ensures, c.in-Ok.ensures) refl

pub returns-in-Err-clause-exact : goal.returns-in-Err-clause-exact
unfolding phrases bounded ended flat_at row_at
returns-in-Err-clause-exact c =
    let begun = sym c.starts_with.ensures ∙ c.if-not-starts_with.false in
    fails_as c.in-Err.stop c.in-Err.ensures (λ f read. rw (word_as (items (read_at c.args.inner)) Size_item fixed.OpenBracket fixed.CloseBracket (λ x. x) c.args.tokens.now begun, begun, sym c.rest_of.ensures, read) refl)

pub returns-then-not-starts_with-clause-exact : goal.returns-then-not-starts_with-clause-exact
unfolding phrases bounded ended flat_at refuse_sort
returns-then-not-starts_with-clause-exact c = rw (sym c.starts_with.ensures ∙ c.if-not-starts_with.true, c.refused.ensures) refl
