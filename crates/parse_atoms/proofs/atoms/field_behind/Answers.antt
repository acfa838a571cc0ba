-- The name behind the dot.
use Rattle.std.proofs.Common.{◌≡◌, ◌+◌, ◌≤◌, suc, sym, refl, arith}
use Rattle.fut_grammar.specs.Reading.{expect, has_at, parts_at}
use Rattle.parse_types.proofs.ReadLaws.{fails_as, low_as}
use Rattle.parse_atoms.proofs.atoms.field_behind.Goals as goal

pub returns-in-Err : goal.returns-in-Err
unfolding parts_at has_at expect
returns-in-Err c = record { exact = fails_as c.in-Err.stop c.in-Err.ensures (λ f read. rw read refl); low = tt }

pub returns-in-Ok-take_word : goal.returns-in-Ok-take_word
unfolding parts_at has_at expect
returns-in-Ok-take_word c =
    let one : suc c.args.first.height ≡ c.args.first.height + 1 = omega arith in
    let low : c.args.first.height + 1 ≤ c.args.inner + 1 = omega (arith, c.requires.room.1) in
    record { exact = rw (c.in-Ok.ensures, c.requires.dot, sym c.rest_of.ensures, c.in-Ok-take_word.ensures, one) (c.made.ensures.exact _ c.field.ensures); low = low_as c.made.result c.made.ensures.low low }

pub returns-in-Err-take_word : goal.returns-in-Err-take_word
unfolding parts_at has_at expect
returns-in-Err-take_word c = record { exact = fails_as c.in-Err-take_word.stop c.in-Err-take_word.ensures (λ f read. rw (c.in-Ok.ensures, c.requires.dot, sym c.rest_of.ensures, read) refl); low = tt }
