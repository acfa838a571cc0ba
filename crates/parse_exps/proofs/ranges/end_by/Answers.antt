-- The second value, the sign of the end, and the last value.
use Rattle.std.proofs.Common.{◌≡◌, ◌+◌, ◌≤◌, max, suc, sym, ap, refl, arith}
use Rattle.fut_ast.specs.declared.node.Spot.{Spot}
use Rattle.fut_grammar.specs.Phrases.{phrases}
use Rattle.fut_grammar.specs.Reading.{expect, has_at, parts_at, sub_at}
use Rattle.parse_types.proofs.ReadLaws.{fails_as, low_as}
use Rattle.parse_exps.proofs.ranges.end_by.Goals as goal

pub returns-in-Err : goal.returns-in-Err
unfolding parts_at has_at sub_at phrases expect
returns-in-Err g c = record { exact = fails_as c.in-Err.stop c.in-Err.ensures.exact (λ f read. rw (c.requires.sign, sym c.rest_of.ensures, read) refl); low = tt }

pub returns-in-Err-take_end : goal.returns-in-Err-take_end
unfolding parts_at has_at sub_at phrases expect
returns-in-Err-take_end g c = record { exact = fails_as c.in-Err-take_end.stop c.in-Err-take_end.ensures (λ f read. rw (c.requires.sign, sym c.rest_of.ensures, c.in-Ok.ensures.exact, read) refl); low = tt }

pub returns-in-Err-read : goal.returns-in-Err-read
unfolding parts_at has_at sub_at phrases expect
returns-in-Err-read g c = record { exact = fails_as c.in-Err-read.stop c.in-Err-read.ensures.exact (λ f read. rw (c.requires.sign, sym c.rest_of.ensures, c.in-Ok.ensures.exact, c.in-Ok-take_end.ensures, read) refl); low = tt }

pub returns-in-Ok-read : goal.returns-in-Ok-read
unfolding parts_at has_at sub_at phrases expect
returns-in-Ok-read g c =
    let mark = ap (λ (s : Spot). s.place) (sym c.next_spot.ensures) in
    let one : suc (max (max c.args.first.height c.in-Ok.next.height) c.in-Ok-read.last.height) ≡ c.greater-height.result + 1 = omega (arith, c.greater.ensures, c.greater-height.ensures) in
    let low : c.greater-height.result + 1 ≤ c.args.inner + 1 = omega (arith, c.greater.ensures, c.greater-height.ensures, c.in-Ok.ensures.low, c.in-Ok-read.ensures.low, c.requires.room.1) in
    record { exact = rw (c.requires.sign, sym c.rest_of.ensures, c.in-Ok.ensures.exact, c.in-Ok-take_end.ensures, c.in-Ok-read.ensures.exact, mark, one) (c.ending_made.ensures.exact _ c.range-node.ensures); low = low_as c.ending_made.result c.ending_made.ensures.low low }
