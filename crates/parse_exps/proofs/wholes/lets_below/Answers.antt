-- A row of lets, and the body behind it.
use Rattle.std.proofs.Common.{◌≡◌, ◌+◌, ◌≤◌, max, suc, sym, ap, refl, arith}
use Rattle.fut_ast.specs.declared.node.Spot.{Spot}
use Rattle.fut_grammar.specs.Phrases.{lets_at}
use Rattle.parse_types.proofs.ReadLaws.{fails_as, low_as}
use Rattle.parse_exps.proofs.wholes.lets_below.Goals as goal

pub returns-in-Err : goal.returns-in-Err
unfolding lets_at
returns-in-Err g c = record { exact = fails_as c.in-Err.stop c.in-Err.ensures.exact (λ f read. rw read refl); low = tt }

pub returns-in-Ok-body_below : goal.returns-in-Ok-body_below
unfolding lets_at
returns-in-Ok-body_below g c =
    let place = ap (λ (s : Spot). s.place) (sym c.next_spot.ensures) in
    let high : max (suc c.in-Ok.row.height) c.in-Ok-body_below.body.height ≡ c.greater-height.result = omega (arith, c.greater-height.ensures) in
    let low : c.greater-height.result ≤ c.args.inner + 1 = omega (arith, c.greater-height.ensures, c.in-Ok.ensures.low, c.in-Ok-body_below.ensures.low) in
    record { exact = rw (c.in-Ok.ensures.exact, c.in-Ok-body_below.ensures.exact, place, high) (c.ending_made.ensures.exact _ c.lets-node.ensures); low = low_as c.ending_made.result c.ending_made.ensures.low low }

pub returns-in-Err-body_below : goal.returns-in-Err-body_below
unfolding lets_at
returns-in-Err-body_below g c = record { exact = fails_as c.in-Err-body_below.stop c.in-Err-body_below.ensures.exact (λ f read. rw (c.in-Ok.ensures.exact, read) refl); low = tt }
