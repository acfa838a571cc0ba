-- By the tokens that stand next.
use Rattle.std.proofs.Common.{sym, ap, ◌∙◌, refl, arith}
use Rattle.fut_token.specs.declared.token.Fixed.TheVariants as fixed
use Rattle.fut_ast.specs.Tokens.{starts, tail}
use Rattle.fut_grammar.specs.Phrases.{paren_at}
use Rattle.parse_types.proofs.ReadLaws.{low_as}
use Rattle.parse_atoms.proofs.parens.paren_below.Goals as goal

pub index_alone-requires : goal.index_alone-requires
index_alone-requires g c =
    let dot = ap (starts fixed.Dot) (sym c.rest_of-inside.ensures) ∙ sym c.starts_with-else-starts_with.ensures ∙ c.if-starts_with-2.true in
    let bracket = ap (λ ts. starts fixed.OpenBracket (tail ts)) (sym c.rest_of-inside.ensures) ∙ ap (starts fixed.OpenBracket) (sym c.rest_of.ensures) ∙ sym c.starts_with-then-starts_with-2.ensures ∙ c.if-starts_with-3.true in
    λ k. ((refl, tt), (c.requires.first, (dot, (bracket, (c.requires.law, c.requires.room)))))

pub returns-then-starts_with : goal.returns-then-starts_with
unfolding paren_at
returns-then-starts_with g c = record { exact = rw (sym c.rest_of-inside.ensures, sym c.starts_with.ensures ∙ c.if-starts_with.true) (c.unit.ensures.exact c.args.inner); low = low_as c.unit.result c.unit.ensures.low (omega arith) }

pub returns-then-starts_with-3 : goal.returns-then-starts_with-3
unfolding paren_at
returns-then-starts_with-3 g c = record { exact = rw (sym c.rest_of-inside.ensures, sym c.starts_with.ensures ∙ c.if-starts_with.false, sym c.starts_with-else-starts_with.ensures ∙ c.if-starts_with-2.true, sym c.rest_of.ensures, sym c.starts_with-then-starts_with-2.ensures ∙ c.if-starts_with-3.true) c.index_alone.ensures.exact; low = c.index_alone.ensures.low }

pub returns-else-starts_with-3 : goal.returns-else-starts_with-3
unfolding paren_at
returns-else-starts_with-3 g c = record { exact = rw (sym c.rest_of-inside.ensures, sym c.starts_with.ensures ∙ c.if-starts_with.false, sym c.starts_with-else-starts_with.ensures ∙ c.if-starts_with-2.true, sym c.rest_of.ensures, sym c.starts_with-then-starts_with-2.ensures ∙ c.if-starts_with-3.false) (c.fields_alone.ensures.exact c.args.inner); low = low_as c.fields_alone.result c.fields_alone.ensures.low (omega arith) }

pub returns-else-starts_with-2 : goal.returns-else-starts_with-2
unfolding paren_at
returns-else-starts_with-2 g c =
    let close = ap (starts fixed.CloseParen) (sym c.rest_of-inside.ensures) ∙ sym c.starts_with.ensures ∙ c.if-starts_with.false in
    let dot = ap (starts fixed.Dot) (sym c.rest_of-inside.ensures) ∙ sym c.starts_with-else-starts_with.ensures ∙ c.if-starts_with-2.false in
    record { exact = rw (close, dot) c.section_or_round.ensures.exact; low = c.section_or_round.ensures.low }
