-- One expression between the parentheses, or more.
use Rattle.std.proofs.Common.{◌≡◌, ◌+◌, ◌≤◌, suc, max, sym, ◌∙◌, refl, arith}
use Rattle.std.proofs.Math.Nat.{zero-max}
use Rattle.fut_grammar.specs.Phrases.{round_end}
use Rattle.parse_types.proofs.ReadLaws.{fails_as, low_as}
use Rattle.parse_atoms.proofs.parens.round.Goals as goal

pub returns-then-not-starts_with : goal.returns-then-not-starts_with
unfolding round_end
returns-then-not-starts_with g c =
    let one : suc (max 0 c.args.first_height) ≡ c.args.first_height + 1 = omega arith in
    let low : c.args.first_height + 1 ≤ c.args.inner + 1 = omega (arith, c.requires.room.1) in
    record { exact = rw (sym c.starts_with.ensures ∙ c.if-not-starts_with.true, one) (c.made_before.ensures.exact _ refl); low = low_as c.made_before.result c.made_before.ensures.low low }

pub returns-in-Err : goal.returns-in-Err
unfolding round_end
returns-in-Err g c = record { exact = fails_as c.in-Err.stop c.in-Err.ensures.exact (λ f read. rw (sym c.starts_with.ensures ∙ c.if-not-starts_with.false, sym c.rest_of.ensures, zero-max c.args.first_height, read) refl); low = tt }

pub returns-in-Ok-in_front : goal.returns-in-Ok-in_front
unfolding round_end
returns-in-Ok-in_front g c =
    let one : suc c.in-Ok.others.height ≡ c.in-Ok.others.height + 1 = omega arith in
    let low : c.in-Ok.others.height + 1 ≤ c.args.inner + 1 = omega (arith, c.in-Ok.ensures.low) in
    record { exact = rw (sym c.starts_with.ensures ∙ c.if-not-starts_with.false, sym c.rest_of.ensures, zero-max c.args.first_height, c.in-Ok.ensures.exact, sym c.in-Ok-in_front.ensures, one) (c.made_before-in-Ok-in_front.ensures.exact _ c.round.ensures); low = low_as c.made_before-in-Ok-in_front.result c.made_before-in-Ok-in_front.ensures.low low }
