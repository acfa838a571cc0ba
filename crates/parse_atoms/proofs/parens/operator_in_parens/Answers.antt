-- The operator alone.
use Rattle.std.proofs.Common.{sym, ap, refl}
use Rattle.fut_token.specs.declared.token.Fixed.TheVariants as fixed
use Rattle.fut_ast.specs.Sorts.{Base}
use Rattle.fut_ast.specs.declared.node.Spot.{Spot}
use Rattle.fut_grammar.specs.Phrases.{phrases, read_at}
use Rattle.fut_grammar.specs.Reading.{expect, has_at, parts_at, row_at}
use Rattle.parse_types.proofs.ReadLaws.{fails_as}
use Rattle.parse_atoms.proofs.ClosingLaws.{closes}
use Rattle.parse_atoms.proofs.parens.operator_in_parens.Goals as goal

pub returns-in-Ok : goal.returns-in-Ok
unfolding row_at parts_at has_at expect
returns-in-Ok c =
    let paren = ap (λ (s : Spot). s.place) (sym c.next_spot.ensures) in
    record { exact = λ inner. rw (c.requires.first, sym c.rest_of.ensures, c.in-Ok.ensures, paren) (closes (phrases (read_at inner)) Base fixed.CloseParen _ 0 c.in-Ok.rest.now _ c.made_before.result (c.made_before.ensures.exact _ c.operator_alone.ensures)); low = c.made_before.ensures.low }

pub returns-in-Err : goal.returns-in-Err
unfolding row_at parts_at has_at expect
returns-in-Err c = record { exact = λ inner. fails_as c.in-Err.stop c.in-Err.ensures (λ f read. rw (c.requires.first, sym c.rest_of.ensures, read) refl); low = tt }
