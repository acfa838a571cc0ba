-- By the tokens that stand next.
use Rattle.std.proofs.Common.{sym, ap, ◌∙◌, arith}
use Rattle.fut_token.specs.declared.token.Fixed.TheVariants as fixed
use Rattle.fut_ast.specs.declared.node.Spot.{Spot}
use Rattle.fut_ast.specs.declared.pat.PatForm.TheVariants as pat_form
use Rattle.fut_ast.specs.Nodes.{pat_at, round_pat_of}
use Rattle.fut_ast.specs.Sorts.{Atomic_pat, Pat_field, Whole_pat}
use Rattle.fut_ast.specs.Tokens.{spot_of}
use Rattle.fut_grammar.specs.Phrases.{atomic_pat_at, phrases, read_at}
use Rattle.fut_grammar.specs.Reading.{row_at}
use Rattle.parse_types.specs.Signs.{enclosed_at}
use Rattle.parse_types.proofs.ReadLaws.{enclosed_as, low_as, under}
use Rattle.parse_types.proofs.patterns.atomic_below.Goals as goal

pub returns-then-starts_with_word-clause-exact : goal.returns-then-starts_with_word-clause-exact
unfolding atomic_pat_at
returns-then-starts_with_word-clause-exact g c = rw (sym c.starts_with_word.ensures ∙ c.if-starts_with_word.true) (c.name.ensures.exact c.args.inner)

pub returns-then-starts_with_word-clause-low : goal.returns-then-starts_with_word-clause-low
returns-then-starts_with_word-clause-low g c = low_as c.name.result c.name.ensures.low (omega arith)

pub returns-then-starts_with-clause-exact : goal.returns-then-starts_with-clause-exact
unfolding atomic_pat_at
returns-then-starts_with-clause-exact g c =
    rw (sym c.starts_with_word.ensures ∙ c.if-starts_with_word.false, sym c.starts_with.ensures ∙ c.if-starts_with.true) (c.wildcard.ensures.exact c.args.inner)

pub returns-then-starts_with-clause-low : goal.returns-then-starts_with-clause-low
returns-then-starts_with-clause-low g c = low_as c.wildcard.result c.wildcard.ensures.low (omega arith)

pub returns-then-starts_with-2-clause-exact : goal.returns-then-starts_with-2-clause-exact
unfolding atomic_pat_at row_at
returns-then-starts_with-2-clause-exact g c =
    let place = ap (λ (s : Spot). s.place) (sym c.next_spot.ensures) in
    rw (sym c.starts_with_word.ensures ∙ c.if-starts_with_word.false, sym c.starts_with.ensures ∙ c.if-starts_with.false, sym c.starts_with-else-starts_with.ensures ∙ c.if-starts_with-2.true, enclosed_as (phrases (read_at c.args.inner)) Atomic_pat Whole_pat fixed.OpenParen fixed.CloseParen (round_pat_of (spot_of c.args.tokens.now).place) c.args.tokens.now, place) (c.round.ensures.exact (enclosed_at (phrases (read_at c.args.inner)) fixed.OpenParen fixed.CloseParen Whole_pat c.args.tokens.now) c.enclosed.ensures.exact)

pub returns-else-starts_with-2-clause-exact : goal.returns-else-starts_with-2-clause-exact
unfolding atomic_pat_at row_at
returns-else-starts_with-2-clause-exact g c =
    let place = ap (λ (s : Spot). s.place) (sym c.next_spot.ensures) in
    rw (sym c.starts_with_word.ensures ∙ c.if-starts_with_word.false, sym c.starts_with.ensures ∙ c.if-starts_with.false, sym c.starts_with-else-starts_with.ensures ∙ c.if-starts_with-2.false, enclosed_as (phrases (read_at c.args.inner)) Atomic_pat Pat_field fixed.OpenBrace fixed.CloseBrace (λ fs. pat_at (spot_of c.args.tokens.now).place (pat_form.Record fs)) c.args.tokens.now, place) (c.fields.ensures.exact (enclosed_at (phrases (read_at c.args.inner)) fixed.OpenBrace fixed.CloseBrace Pat_field c.args.tokens.now) c.enclosed-else-starts_with-2.ensures.exact)

pub round-requires : goal.round-requires
round-requires g c = under c.enclosed.result c.enclosed.ensures.low c.requires.room

pub fields-requires : goal.fields-requires
fields-requires g c = under c.enclosed-else-starts_with-2.result c.enclosed-else-starts_with-2.ensures.low c.requires.room

pub returns-then-starts_with-2-clause-low : goal.returns-then-starts_with-2-clause-low
returns-then-starts_with-2-clause-low g c = c.round.ensures.low _ c.enclosed.ensures.low

pub returns-else-starts_with-2-clause-low : goal.returns-else-starts_with-2-clause-low
returns-else-starts_with-2-clause-low g c = c.fields.ensures.low _ c.enclosed-else-starts_with-2.ensures.low
