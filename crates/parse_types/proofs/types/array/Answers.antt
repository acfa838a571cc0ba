-- The size between the brackets, and the type behind them.
use Rattle.std.proofs.Common.{◌≡◌, ◌+◌, suc, sym, ap, refl, arith}
use Rattle.std.proofs.Math.Nat.{zero-max}
use Rattle.fut_ast.specs.declared.node.Spot.{Spot}
use Rattle.fut_grammar.specs.Phrases.{phrases}
use Rattle.fut_grammar.specs.Reading.{row_at, parts_at, has_at, expect, sub_at}
use Rattle.parse_types.proofs.ReadLaws.{fails_as, high_as}
use Rattle.parse_types.proofs.types.array.Goals as goal

pub returns-in-Ok-read-clause-exact : goal.returns-in-Ok-read-clause-exact
unfolding row_at parts_at has_at expect sub_at phrases
returns-in-Ok-read-clause-exact g c =
    let place = ap (λ (s : Spot). s.place) (sym c.next_spot.ensures) in
    let one : suc c.in-Ok-read.row.height ≡ c.in-Ok-read.row.height + 1 = omega arith in
    rw (c.requires.first, sym c.rest_of.ensures, c.in-Ok.ensures.exact, c.in-Ok.ensures.close, sym c.rest_of-2.ensures, c.in-Ok-read.ensures.0, zero-max c.in-Ok-read.row.height, place, one) c.made.ensures

pub returns-in-Ok-read-clause-low : goal.returns-in-Ok-read-clause-low
returns-in-Ok-read-clause-low g c = high_as _ c.made.result _ _ c.made.ensures (omega (arith, c.in-Ok-read.ensures.1))

pub returns-in-Err-read-clause-exact : goal.returns-in-Err-read-clause-exact
unfolding row_at parts_at has_at expect sub_at phrases
returns-in-Err-read-clause-exact g c =
    fails_as c.in-Err-read.stop c.in-Err-read.ensures.0 (λ f read. rw (c.requires.first, sym c.rest_of.ensures, c.in-Ok.ensures.exact, c.in-Ok.ensures.close, sym c.rest_of-2.ensures, read) refl)

pub returns-in-Err-clause-exact : goal.returns-in-Err-clause-exact
unfolding row_at parts_at has_at expect sub_at phrases
returns-in-Err-clause-exact g c =
    fails_as c.in-Err.stop c.in-Err.ensures.exact (λ f read. rw (c.requires.first, sym c.rest_of.ensures, read) refl)
