-- By the token that stands next.
use Rattle.std.proofs.Common.{sym, ap, ◌∙◌}
use Rattle.fut_token.specs.declared.token.Fixed.TheVariants as fixed
use Rattle.fut_ast.specs.declared.node.Spot.{Spot}
use Rattle.fut_ast.specs.declared.ty.TypeForm.TheVariants as type_form
use Rattle.fut_ast.specs.Nodes.{round_type_of, type_at}
use Rattle.fut_ast.specs.Sorts.{Atomic_type, Type_field, Whole_type}
use Rattle.fut_ast.specs.Tokens.{spot_of}
use Rattle.fut_grammar.specs.Phrases.{atomic_type_at, phrases, read_at}
use Rattle.fut_grammar.specs.Reading.{row_at}
use Rattle.parse_types.specs.Signs.{enclosed_at}
use Rattle.parse_types.proofs.ReadLaws.{enclosed_as, under}
use Rattle.parse_types.proofs.types.bracket_type_below.Goals as goal

pub round-requires : goal.round-requires
round-requires g c = under c.enclosed.result c.enclosed.ensures.low c.requires.room

pub fields-requires : goal.fields-requires
fields-requires g c = under c.enclosed-else-starts_with.result c.enclosed-else-starts_with.ensures.low c.requires.room

pub returns-then-starts_with-clause-exact : goal.returns-then-starts_with-clause-exact
unfolding atomic_type_at row_at
returns-then-starts_with-clause-exact g c =
    let place = ap (λ (s : Spot). s.place) (sym c.next_spot.ensures) in
    rw (sym c.starts_with.ensures ∙ c.if-starts_with.true, enclosed_as (phrases (read_at c.args.inner)) Atomic_type Whole_type fixed.OpenParen fixed.CloseParen (round_type_of (spot_of c.args.tokens.now).place) c.args.tokens.now, place) (c.round.ensures.exact (enclosed_at (phrases (read_at c.args.inner)) fixed.OpenParen fixed.CloseParen Whole_type c.args.tokens.now) c.enclosed.ensures.exact)

pub returns-then-starts_with-clause-low : goal.returns-then-starts_with-clause-low
returns-then-starts_with-clause-low g c = c.round.ensures.low _ c.enclosed.ensures.low

pub returns-else-starts_with-clause-exact : goal.returns-else-starts_with-clause-exact
unfolding atomic_type_at row_at
returns-else-starts_with-clause-exact g c =
    let place = ap (λ (s : Spot). s.place) (sym c.next_spot.ensures) in
    rw (sym c.starts_with.ensures ∙ c.if-starts_with.false, enclosed_as (phrases (read_at c.args.inner)) Atomic_type Type_field fixed.OpenBrace fixed.CloseBrace (λ fs. type_at (spot_of c.args.tokens.now).place (type_form.Record fs)) c.args.tokens.now, place) (c.fields.ensures.exact (enclosed_at (phrases (read_at c.args.inner)) fixed.OpenBrace fixed.CloseBrace Type_field c.args.tokens.now) c.enclosed-else-starts_with.ensures.exact)

pub returns-else-starts_with-clause-low : goal.returns-else-starts_with-clause-low
returns-else-starts_with-clause-low g c = c.fields.ensures.low _ c.enclosed-else-starts_with.ensures.low
