-- The indices between the brackets, and the new value.
use Rattle.std.proofs.Common.{◌≡◌, ◌+◌, ◌≤◌, max, suc, sym, ap, refl, arith}
use Rattle.fut_token.specs.declared.token.Fixed.TheVariants as fixed
use Rattle.fut_ast.specs.declared.node.Spot.{Spot}
use Rattle.fut_ast.specs.Sorts.{Right}
use Rattle.fut_grammar.specs.Phrases.{phrases, read_at}
use Rattle.fut_grammar.specs.Reading.{expect, has_at, parts_at, sub_at}
use Rattle.parse_atoms.proofs.BehindLaws.{behind_fails}
use Rattle.parse_types.proofs.ReadLaws.{fails_as, low_as}
use Rattle.parse_exps.proofs.updates.index_replaced.Goals as goal

pub returns-in-Err : goal.returns-in-Err
unfolding parts_at has_at sub_at phrases expect
returns-in-Err g c = record { exact = fails_as c.in-Err.stop c.in-Err.ensures.exact (λ f read. rw (c.requires.sign, c.requires.bracket, sym c.rest_of-behind.ensures, sym c.rest_of.ensures, read) refl); low = tt }

pub returns-in-Err-take : goal.returns-in-Err-take
unfolding parts_at has_at sub_at phrases expect
returns-in-Err-take g c = record { exact = fails_as c.in-Err-take.stop c.in-Err-take.ensures (λ f read. rw (c.requires.sign, c.requires.bracket, sym c.rest_of-behind.ensures, sym c.rest_of.ensures, c.in-Ok.ensures.exact, read) refl); low = tt }

pub returns-in-Err-read_behind : goal.returns-in-Err-read_behind
unfolding parts_at has_at sub_at phrases expect
returns-in-Err-read_behind g c = record { exact = behind_fails c.in-Err-read_behind.stop fixed.Equal (read_at c.args.inner Right) c.in-Ok-take.rest.now c.in-Err-read_behind.ensures.exact (λ sign f read. rw (c.requires.sign, c.requires.bracket, sym c.rest_of-behind.ensures, sym c.rest_of.ensures, c.in-Ok.ensures.exact, c.in-Ok-take.ensures, sign, read) refl) (λ none. rw (c.requires.sign, c.requires.bracket, sym c.rest_of-behind.ensures, sym c.rest_of.ensures, c.in-Ok.ensures.exact, c.in-Ok-take.ensures, none) refl); low = tt }

pub returns-in-Ok-read_behind : goal.returns-in-Ok-read_behind
unfolding parts_at has_at sub_at phrases expect
returns-in-Ok-read_behind g c =
    let mark = ap (λ (s : Spot). s.place) (sym c.next_spot.ensures) in
    let value = rw c.in-Ok-read_behind.ensures.sign at c.in-Ok-read_behind.ensures.exact in
    let one : suc (max c.in-Ok.indices.height c.in-Ok-read_behind.value.height) ≡ c.greater-height.result + 1 = omega (arith, c.greater-height.ensures) in
    let low : c.greater-height.result + 1 ≤ c.args.inner + 1 = omega (arith, c.greater-height.ensures, c.in-Ok.ensures.low, c.in-Ok-read_behind.ensures.low) in
    record { exact = rw (c.requires.sign, c.requires.bracket, sym c.rest_of-behind.ensures, sym c.rest_of.ensures, c.in-Ok.ensures.exact, c.in-Ok-take.ensures, c.in-Ok-read_behind.ensures.sign, value, mark, one) (c.ending_made.ensures.exact _ c.updated-node.ensures); low = low_as c.ending_made.result c.ending_made.ensures.low low }
