-- What stops a part stops the production.
use Rattle.std.proofs.Common.{◌≤◌, sym, ap, refl, arith}
use Rattle.fut_token.specs.declared.token.Fixed.TheVariants as fixed
use Rattle.fut_ast.specs.declared.node.Spot.{Spot}
use Rattle.fut_ast.specs.Sorts.{Whole}
use Rattle.fut_grammar.specs.Phrases.{items, read_at}
use Rattle.fut_grammar.specs.Reading.{expect, has_at, parts_at, row_at, sub_at}
use Rattle.parse_atoms.proofs.BehindLaws.{behind_fails}
use Rattle.parse_types.proofs.ReadLaws.{fails_as, low_as}
use Rattle.parse_atoms.proofs.lets.let_function.Goals as goal

pub returns-in-Err : goal.returns-in-Err
unfolding row_at parts_at has_at expect sub_at items
returns-in-Err g c = record { exact = fails_as c.in-Err.stop c.in-Err.ensures.exact (λ f read. rw (c.requires.form, c.next_word-name.ensures, sym c.rest_of.ensures, read) refl); low = tt }

pub returns-in-Err-several_patterns_inside : goal.returns-in-Err-several_patterns_inside
unfolding row_at parts_at has_at expect sub_at items
returns-in-Err-several_patterns_inside g c = record { exact = fails_as c.in-Err-several_patterns_inside.stop c.in-Err-several_patterns_inside.ensures.exact (λ f read. rw (c.requires.form, c.next_word-name.ensures, sym c.rest_of.ensures, c.in-Ok.ensures.exact, read) refl); low = tt }

pub returns-in-Err-maybe_type_inside : goal.returns-in-Err-maybe_type_inside
unfolding row_at parts_at has_at expect sub_at items
returns-in-Err-maybe_type_inside g c = record { exact = fails_as c.in-Err-maybe_type_inside.stop c.in-Err-maybe_type_inside.ensures.exact (λ f read. rw (c.requires.form, c.next_word-name.ensures, sym c.rest_of.ensures, c.in-Ok.ensures.exact, c.in-Ok-several_patterns_inside.ensures.exact, read) refl); low = tt }

pub returns-in-Err-read_behind : goal.returns-in-Err-read_behind
unfolding row_at parts_at has_at expect sub_at items
returns-in-Err-read_behind g c = record { exact = behind_fails c.in-Err-read_behind.stop fixed.Equal (read_at c.args.inner Whole) c.in-Ok-maybe_type_inside.ty.rest.now c.in-Err-read_behind.ensures.exact (λ sign f read. rw (c.requires.form, c.next_word-name.ensures, sym c.rest_of.ensures, c.in-Ok.ensures.exact, c.in-Ok-several_patterns_inside.ensures.exact, c.in-Ok-maybe_type_inside.ensures.exact, sign, read) refl) (λ none. rw (c.requires.form, c.next_word-name.ensures, sym c.rest_of.ensures, c.in-Ok.ensures.exact, c.in-Ok-several_patterns_inside.ensures.exact, c.in-Ok-maybe_type_inside.ensures.exact, none) refl); low = tt }

pub returns-in-Ok-read_behind : goal.returns-in-Ok-read_behind
unfolding row_at parts_at has_at expect sub_at items
returns-in-Ok-read_behind g c =
    let place = ap (λ (s : Spot). s.place) (sym c.next_spot.ensures) in
    let body = rw c.in-Ok-read_behind.ensures.sign at c.in-Ok-read_behind.ensures.exact in
    let low : c.greater.result ≤ c.args.inner = omega (arith, c.greater.ensures, c.in-Ok-maybe_type_inside.ensures.low, c.in-Ok-read_behind.ensures.low) in
    record { exact = rw (c.requires.form, c.next_word-name.ensures, sym c.rest_of.ensures, c.in-Ok.ensures.exact, c.in-Ok-several_patterns_inside.ensures.exact, c.in-Ok-maybe_type_inside.ensures.exact, c.in-Ok-read_behind.ensures.sign, body, place, sym c.greater.ensures) (c.bind_made.ensures.exact _ c.function_bound.ensures); low = low_as c.bind_made.result c.bind_made.ensures.low low }
