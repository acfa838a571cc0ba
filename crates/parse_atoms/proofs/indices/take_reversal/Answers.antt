-- Behind the two colons.
use Rattle.std.proofs.Common.{sym, ap, ◌∙◌, refl}
use Rattle.fut_token.specs.declared.token.Fixed.TheVariants as fixed
use Rattle.fut_ast.specs.Tokens.{starts, tail}
use Rattle.fut_grammar.specs.Reading.{expect}
use Rattle.fut_grammar.proofs.Bools.{and_left, and_right}
use Rattle.parse_types.proofs.ReadLaws.{fails_as}
use Rattle.parse_atoms.specs.Parts.{reversal_at}
use Rattle.parse_atoms.proofs.indices.take_reversal.Goals as goal

pub returns-in-Err : goal.returns-in-Err
unfolding reversal_at expect
returns-in-Err c =
    let first = and_left (starts fixed.Colon c.args.tokens.now) (starts fixed.Colon (tail c.args.tokens.now)) c.requires.begun in
    let next = ap (starts fixed.Colon) c.rest_of-rest.ensures ∙ and_right (starts fixed.Colon c.args.tokens.now) (starts fixed.Colon (tail c.args.tokens.now)) c.requires.begun in
    fails_as c.in-Err.stop c.in-Err.ensures (λ f read. rw (first, sym c.rest_of-rest.ensures, read) refl)

pub returns-in-Ok-take : goal.returns-in-Ok-take
unfolding reversal_at expect
returns-in-Ok-take c =
    let first = and_left (starts fixed.Colon c.args.tokens.now) (starts fixed.Colon (tail c.args.tokens.now)) c.requires.begun in
    let next = ap (starts fixed.Colon) c.rest_of-rest.ensures ∙ and_right (starts fixed.Colon c.args.tokens.now) (starts fixed.Colon (tail c.args.tokens.now)) c.requires.begun in
    rw (first, sym c.rest_of-rest.ensures, c.in-Ok.ensures, next, sym c.rest_of.ensures, c.in-Ok-take.ensures) c.take_one.ensures

pub returns-in-Err-take : goal.returns-in-Err-take
unfolding reversal_at expect
returns-in-Err-take c =
    let first = and_left (starts fixed.Colon c.args.tokens.now) (starts fixed.Colon (tail c.args.tokens.now)) c.requires.begun in
    let next = ap (starts fixed.Colon) c.rest_of-rest.ensures ∙ and_right (starts fixed.Colon c.args.tokens.now) (starts fixed.Colon (tail c.args.tokens.now)) c.requires.begun in
    fails_as c.in-Err-take.stop c.in-Err-take.ensures (λ f read. rw (first, sym c.rest_of-rest.ensures, c.in-Ok.ensures, next, sym c.rest_of.ensures, read) refl)
