-- The digits.
use Rattle.std.proofs.Common.{◌≡◌, ◌+◌, ◌≤◌, suc, refl, arith}
use Rattle.fut_grammar.specs.Reading.{has_at, parts_at}
use Rattle.parse_types.proofs.ReadLaws.{fails_as, low_as}
use Rattle.parse_atoms.proofs.atoms.digits_behind.Goals as goal

pub returns-in-Ok : goal.returns-in-Ok
unfolding parts_at has_at
returns-in-Ok c =
    let one : suc c.args.first.height ≡ c.args.first.height + 1 = omega arith in
    let low : c.args.first.height + 1 ≤ c.args.inner + 1 = omega (arith, c.requires.1) in
    record { exact = rw (c.in-Ok.ensures, one) (c.made.ensures.exact _ c.field.ensures); low = low_as c.made.result c.made.ensures.low low }

pub returns-in-Err : goal.returns-in-Err
unfolding parts_at has_at
returns-in-Err c = record { exact = fails_as c.in-Err.stop c.in-Err.ensures (λ f read. rw read refl); low = tt }
