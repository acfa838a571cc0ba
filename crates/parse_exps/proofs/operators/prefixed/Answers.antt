-- An operator and its operand.
use Rattle.std.proofs.Common.{◌≡◌, ◌+◌, ◌≤◌, suc, sym, ap, refl, arith}
use Rattle.fut_ast.specs.declared.node.Spot.{Spot}
use Rattle.std.proofs.Math.Nat.{zero-max}
use Rattle.fut_grammar.specs.Phrases.{phrases}
use Rattle.fut_grammar.specs.Reading.{expect, has_at, parts_at, sub_at}
use Rattle.parse_types.proofs.ReadLaws.{fails_as, low_as}
use Rattle.parse_exps.proofs.operators.prefixed.Goals as goal

pub returns-in-Err : goal.returns-in-Err
unfolding parts_at has_at sub_at phrases expect
returns-in-Err g c = record { exact = fails_as c.in-Err.stop c.in-Err.ensures.exact (λ f read. rw (c.requires.first, sym c.rest_of.ensures, read) refl); low = tt }

pub returns-in-Ok : goal.returns-in-Ok
unfolding parts_at has_at sub_at phrases expect
returns-in-Ok g c =
    let place = ap (λ (s : Spot). s.place) (sym c.next_spot.ensures) in
    let one : suc c.in-Ok.found.height ≡ c.in-Ok.found.height + 1 = omega arith in
    let low : c.in-Ok.found.height + 1 ≤ c.args.inner + 1 = omega (arith, c.in-Ok.ensures.low) in
    record { exact = rw (c.requires.first, sym c.rest_of.ensures, c.in-Ok.ensures.exact, zero-max c.in-Ok.found.height, place, one) (c.made.ensures.exact _ c.unary.ensures); low = low_as c.made.result c.made.ensures.low low }
