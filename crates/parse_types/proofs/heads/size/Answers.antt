-- The name between the brackets.
use Rattle.std.proofs.Common.{sym, ap, refl}
use Rattle.fut_token.specs.declared.token.Fixed.TheVariants as fixed
use Rattle.fut_ast.specs.declared.node.Spot.{Spot}
use Rattle.fut_ast.specs.declared.pat.HeadForm.TheVariants as head_form
use Rattle.fut_ast.specs.Sorts.{Head_item}
use Rattle.fut_ast.specs.Tokens.{spot_of}
use Rattle.fut_grammar.specs.Phrases.{items, read_at}
use Rattle.fut_grammar.specs.Reading.{row_at}
use Rattle.parse_types.proofs.ReadLaws.{fails_as, word_as}
use Rattle.parse_types.proofs.heads.size.Goals as goal

pub returns-in-Ok-clause-exact : goal.returns-in-Ok-clause-exact
unfolding row_at
returns-in-Ok-clause-exact c inner =
    let place = ap (λ (s : Spot). s.place) (sym c.next_spot.ensures) in
    rw (word_as (items (read_at inner)) Head_item fixed.OpenBracket fixed.CloseBracket (λ x. record { place = (spot_of c.args.tokens.now).place; form = head_form.Size x }) c.args.tokens.now c.requires, sym c.rest_of.ensures, c.in-Ok.ensures, place) refl

pub returns-in-Err-clause-exact : goal.returns-in-Err-clause-exact
unfolding row_at
returns-in-Err-clause-exact c inner =
    fails_as c.in-Err.stop c.in-Err.ensures (λ f read. rw (word_as (items (read_at inner)) Head_item fixed.OpenBracket fixed.CloseBracket (λ x. record { place = (spot_of c.args.tokens.now).place; form = head_form.Size x }) c.args.tokens.now c.requires, sym c.rest_of.ensures, read) refl)
