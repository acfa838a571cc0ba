-- What stops a part stops the production.
use Rattle.std.proofs.Common.{◌≡◌, ◌≤◌, max, sym, refl, arith}
use Rattle.fut_token.specs.declared.token.Fixed.TheVariants as fixed
use Rattle.fut_ast.specs.Sorts.{Whole}
use Rattle.fut_grammar.specs.Phrases.{items, read_at}
use Rattle.fut_grammar.specs.Reading.{expect, has_at, parts_at, row_at, sub_at}
use Rattle.parse_atoms.proofs.BehindLaws.{behind_fails}
use Rattle.parse_types.proofs.ReadLaws.{fails_as, low_as}
use Rattle.parse_atoms.proofs.forms.over_elements.Goals as goal

pub returns-in-Err : goal.returns-in-Err
unfolding row_at parts_at has_at expect sub_at items
returns-in-Err g c = record { exact = fails_as c.in-Err.stop c.in-Err.ensures.exact (λ f read. rw (c.requires.first, c.requires.no_counter, sym c.rest_of.ensures, read) refl); low = tt }

pub returns-in-Err-read_behind : goal.returns-in-Err-read_behind
unfolding row_at parts_at has_at expect sub_at items
returns-in-Err-read_behind g c = record { exact = behind_fails c.in-Err-read_behind.stop fixed.KeyIn (read_at c.args.inner Whole) c.in-Ok.pat.rest.now c.in-Err-read_behind.ensures.exact (λ sign f read. rw (c.requires.first, c.requires.no_counter, sym c.rest_of.ensures, c.in-Ok.ensures.exact, sign, read) refl) (λ none. rw (c.requires.first, c.requires.no_counter, sym c.rest_of.ensures, c.in-Ok.ensures.exact, none) refl); low = tt }

pub returns-in-Ok-read_behind : goal.returns-in-Ok-read_behind
unfolding row_at parts_at has_at expect sub_at items
returns-in-Ok-read_behind g c =
    let array = rw c.in-Ok-read_behind.ensures.sign at c.in-Ok-read_behind.ensures.exact in
    let high : max (max 0 c.in-Ok.pat.height) c.in-Ok-read_behind.array.height ≡ c.greater.result = omega (arith, c.greater.ensures) in
    let low : c.greater.result ≤ c.args.inner = omega (arith, c.greater.ensures, c.in-Ok.ensures.low, c.in-Ok-read_behind.ensures.low) in
    record { exact = rw (c.requires.first, c.requires.no_counter, sym c.rest_of.ensures, c.in-Ok.ensures.exact, c.in-Ok-read_behind.ensures.sign, array, high) (c.loop_made.ensures.exact _ c.for_in_loop-node.ensures); low = low_as c.loop_made.result c.loop_made.ensures.low low }
