-- The names of the fields.
use Rattle.std.proofs.Common.{sym, ap, ◌∙◌, refl}
use Rattle.fut_token.specs.declared.token.Fixed.TheVariants as fixed
use Rattle.fut_ast.specs.Sorts.{Base}
use Rattle.fut_ast.specs.Tokens.{starts}
use Rattle.fut_ast.specs.declared.node.Spot.{Spot}
use Rattle.fut_grammar.specs.Phrases.{phrases, read_at}
use Rattle.fut_grammar.specs.Reading.{expect, has_at, parts_at, row_at}
use Rattle.parse_types.proofs.ReadLaws.{fails_as}
use Rattle.parse_atoms.proofs.ClosingLaws.{closes}
use Rattle.parse_atoms.proofs.parens.fields_alone.Goals as goal

pub returns-in-Err : goal.returns-in-Err
unfolding row_at parts_at has_at expect
returns-in-Err c = record { exact = λ inner. fails_as c.in-Err.stop c.in-Err.ensures (λ f read. rw (c.requires.first, sym c.rest_of-rest.ensures, read) refl); low = tt }

pub returns-in-Ok-take_path : goal.returns-in-Ok-take_path
unfolding row_at parts_at has_at expect
returns-in-Ok-take_path c =
    let paren = ap (λ (s : Spot). s.place) (sym c.next_spot.ensures) in
    let here = ap (starts fixed.Dot) c.rest_of-rest.ensures ∙ c.requires.dot in
    let dot = ap (λ (s : Spot). s.place) (sym c.next_spot-2.ensures) in
    record { exact = λ inner. rw (c.requires.first, sym c.rest_of-rest.ensures, c.in-Ok.ensures, here, sym c.rest_of.ensures, c.in-Ok-take_path.ensures, paren, dot) (closes (phrases (read_at inner)) Base fixed.CloseParen _ 0 c.in-Ok-take_path.rest.now _ c.made_before.result (c.made_before.ensures.exact _ c.section_of_fields.ensures)); low = c.made_before.ensures.low }

pub returns-in-Err-take_path : goal.returns-in-Err-take_path
unfolding row_at parts_at has_at expect
returns-in-Err-take_path c =
    let here = ap (starts fixed.Dot) c.rest_of-rest.ensures ∙ c.requires.dot in
    record { exact = λ inner. fails_as c.in-Err-take_path.stop c.in-Err-take_path.ensures (λ f read. rw (c.requires.first, sym c.rest_of-rest.ensures, c.in-Ok.ensures, here, sym c.rest_of.ensures, read) refl); low = tt }
