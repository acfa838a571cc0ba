-- What stops a part stops the production.
use Rattle.std.proofs.Common.{◌≡◌, ◌≤◌, true, sym, ◌∙◌, ap, refl, arith}
use Rattle.fut_token.specs.declared.token.Fixed.TheVariants as fixed
use Rattle.fut_ast.specs.declared.node.Spot.{Spot}
use Rattle.fut_ast.specs.Sorts.{Whole}
use Rattle.fut_ast.specs.Tokens.{starts_tight}
use Rattle.fut_grammar.specs.Phrases.{items, read_at}
use Rattle.fut_grammar.specs.Reading.{expect, has_at, parts_at, row_at, sub_at}
use Rattle.fut_grammar.proofs.Bools.{and_left, and_right}
use Rattle.parse_atoms.proofs.BehindLaws.{behind_fails}
use Rattle.parse_types.proofs.ReadLaws.{fails_as, low_as}
use Rattle.parse_atoms.proofs.lets.let_update.Goals as goal

pub returns-in-Err : goal.returns-in-Err
unfolding row_at parts_at has_at expect sub_at items
returns-in-Err g c =
    let tight : starts_tight c.rest_of-behind.result.now ≡ true = ap starts_tight c.rest_of-behind.ensures ∙ and_right _ _ (and_left _ _ c.requires.form) in
    record { exact = fails_as c.in-Err.stop c.in-Err.ensures.in_let (λ f read. rw (c.requires.form, c.next_word-name.ensures, sym c.rest_of-behind.ensures, tight, sym c.rest_of.ensures, read) refl); low = tt }

pub returns-in-Err-take : goal.returns-in-Err-take
unfolding row_at parts_at has_at expect sub_at items
returns-in-Err-take g c =
    let tight : starts_tight c.rest_of-behind.result.now ≡ true = ap starts_tight c.rest_of-behind.ensures ∙ and_right _ _ (and_left _ _ c.requires.form) in
    record { exact = fails_as c.in-Err-take.stop c.in-Err-take.ensures (λ f read. rw (c.requires.form, c.next_word-name.ensures, sym c.rest_of-behind.ensures, tight, sym c.rest_of.ensures, c.in-Ok.ensures.in_let, read) refl); low = tt }

pub returns-in-Err-read_behind : goal.returns-in-Err-read_behind
unfolding row_at parts_at has_at expect sub_at items
returns-in-Err-read_behind g c =
    let tight : starts_tight c.rest_of-behind.result.now ≡ true = ap starts_tight c.rest_of-behind.ensures ∙ and_right _ _ (and_left _ _ c.requires.form) in
    record { exact = behind_fails c.in-Err-read_behind.stop fixed.Equal (read_at c.args.inner Whole) c.in-Ok-take.rest.now c.in-Err-read_behind.ensures.exact (λ sign f read. rw (c.requires.form, c.next_word-name.ensures, sym c.rest_of-behind.ensures, tight, sym c.rest_of.ensures, c.in-Ok.ensures.in_let, c.in-Ok-take.ensures, sign, read) refl) (λ none. rw (c.requires.form, c.next_word-name.ensures, sym c.rest_of-behind.ensures, tight, sym c.rest_of.ensures, c.in-Ok.ensures.in_let, c.in-Ok-take.ensures, none) refl); low = tt }

pub returns-in-Ok-read_behind : goal.returns-in-Ok-read_behind
unfolding row_at parts_at has_at expect sub_at items
returns-in-Ok-read_behind g c =
    let tight : starts_tight c.rest_of-behind.result.now ≡ true = ap starts_tight c.rest_of-behind.ensures ∙ and_right _ _ (and_left _ _ c.requires.form) in
    let place = ap (λ (s : Spot). s.place) (sym c.next_spot.ensures) in
    let mark = ap (λ (s : Spot). s.place) (sym c.next_spot-2.ensures) in
    let value = rw c.in-Ok-read_behind.ensures.sign at c.in-Ok-read_behind.ensures.exact in
    let low : c.greater.result ≤ c.args.inner = omega (arith, c.greater.ensures, c.in-Ok.ensures.low, c.in-Ok-read_behind.ensures.low) in
    record { exact = rw (c.requires.form, c.next_word-name.ensures, sym c.rest_of-behind.ensures, tight, sym c.rest_of.ensures, c.in-Ok.ensures.in_let, c.in-Ok-take.ensures, c.in-Ok-read_behind.ensures.sign, value, place, mark, sym c.greater.ensures) (c.bind_made.ensures.exact _ c.update_bound.ensures); low = low_as c.bind_made.result c.bind_made.ensures.low low }
