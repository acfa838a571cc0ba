-- What was read between the brackets.
use Rattle.std.proofs.Common.{◌+◌, ◌≤◌, sym, ap, refl, arith}
use Rattle.fut_token.specs.declared.token.Fixed.TheVariants as fixed
use Rattle.fut_ast.specs.Sorts.{Base}
use Rattle.fut_ast.specs.declared.node.Spot.{Spot}
use Rattle.fut_grammar.specs.Phrases.{phrases, read_at}
use Rattle.fut_grammar.specs.Reading.{expect, has_at, parts_at, row_at}
use Rattle.parse_types.proofs.ReadLaws.{fails_as, low_as}
use Rattle.parse_atoms.proofs.ClosingLaws.{closes}
use Rattle.parse_atoms.proofs.brackets.elements.Goals as goal

pub returns-in-Ok : goal.returns-in-Ok
unfolding row_at parts_at has_at expect
returns-in-Ok g c =
    let place = ap (λ (s : Spot). s.place) (sym c.next_spot.ensures) in
    let low : c.in-Ok.all.height + 1 ≤ c.args.inner + 1 = omega (arith, c.in-Ok.ensures.low) in
    record { exact = rw (c.requires.first, sym c.rest_of.ensures, c.in-Ok.ensures.exact, place) (closes (phrases (read_at c.args.inner)) Base fixed.CloseBracket _ c.in-Ok.all.height c.in-Ok.all.rest.now _ c.made_before.result (c.made_before.ensures.exact _ c.array.ensures)); low = low_as c.made_before.result c.made_before.ensures.low low }

pub returns-in-Err : goal.returns-in-Err
unfolding row_at parts_at has_at expect
returns-in-Err g c = record { exact = fails_as c.in-Err.stop c.in-Err.ensures.exact (λ f read. rw (c.requires.first, sym c.rest_of.ensures, read) refl); low = tt }
