-- What was read between the brackets.
use Rattle.std.proofs.Common.{◌+◌, ◌≤◌, sym, ap, ◌∙◌, refl, arith}
use Rattle.fut_token.specs.declared.token.Fixed.TheVariants as fixed
use Rattle.fut_ast.specs.Sorts.{Base}
use Rattle.fut_ast.specs.declared.node.Spot.{Spot}
use Rattle.fut_grammar.specs.Phrases.{phrases, read_at}
use Rattle.fut_grammar.specs.Reading.{expect, has_at, parts_at, row_at}
use Rattle.parse_types.proofs.ReadLaws.{fails_as, low_as}
use Rattle.parse_atoms.proofs.ClosingLaws.{closes}
use Rattle.parse_atoms.proofs.parens.index_alone.Goals as goal

pub returns-in-Err : goal.returns-in-Err
unfolding row_at parts_at has_at expect
returns-in-Err g c = record { exact = fails_as c.in-Err.stop c.in-Err.ensures.exact (λ f read. rw (c.requires.first, c.requires.dot, c.requires.bracket, sym c.rest_of.ensures, sym c.rest_of-rest.ensures, sym c.rest_of-2.ensures, read) refl); low = tt }

pub returns-then-not-starts_with : goal.returns-then-not-starts_with
unfolding row_at parts_at has_at expect
returns-then-not-starts_with g c = record { exact = rw (c.requires.first, c.requires.dot, c.requires.bracket, sym c.rest_of.ensures, sym c.rest_of-rest.ensures, sym c.rest_of-2.ensures, c.in-Ok.ensures.exact, sym c.starts_with.ensures ∙ c.if-not-starts_with.true, c.refused.ensures) refl; low = tt }

pub returns : goal.returns
unfolding row_at parts_at has_at expect
returns g c =
    let paren = ap (λ (s : Spot). s.place) (sym c.next_spot.ensures) in
    let bracket = ap (λ (s : Spot). s.place) (sym c.next_spot-2.ensures) in
    let low : c.in-Ok.parts.height + 1 ≤ c.args.inner + 1 = omega (arith, c.in-Ok.ensures.low) in
    record { exact = rw (c.requires.first, c.requires.dot, c.requires.bracket, sym c.rest_of.ensures, sym c.rest_of-rest.ensures, sym c.rest_of-2.ensures, c.in-Ok.ensures.exact, sym c.starts_with.ensures ∙ c.if-not-starts_with.false, sym c.rest_of-3.ensures, paren, bracket) (closes (phrases (read_at c.args.inner)) Base fixed.CloseParen _ c.in-Ok.parts.height c.rest_of-3.result.now _ c.made_before.result (c.made_before.ensures.exact _ c.section_of_index.ensures)); low = low_as c.made_before.result c.made_before.ensures.low low }
