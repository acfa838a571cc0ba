use Rattle.std.proofs.Common.{◌≡◌, ap, ◌∙◌, rules}
use Rattle.std.specs.Str.{chars}
use Rattle.std.proofs.lemmas.Str.{chars_from_encodes}
use Rattle.fut_lexer.specs.declared.position.Position.{Position}
use Rattle.fut_lexer.specs.Positions.{moved, place_of}
use Rattle.fut_lexer.proofs.lexer.end_of.Goals as goal

pub returns-clause-ok : goal.returns-clause-ok
returns-clause-ok c =
    let e : c.deref.result.now ≡ chars c.args.text.now = search (rules, chars_from_encodes) in
    c.place_of.ensures ∙ ap (place_of c.args.file) (c.moved.ensures ∙ ap (moved c.text_start.result) e ∙ ap (λ (p : Position). moved p (chars c.args.text.now)) c.text_start.ensures)
