-- By the operator behind what stands first.
use Rattle.std.proofs.Common.{◌+◌, ◌≤◌, sym, refl, arith}
use Rattle.fut_grammar.specs.Phrases.{phrases, plain_at}
use Rattle.parse_types.proofs.ReadLaws.{fails_as, low_as}
use Rattle.parse_atoms.proofs.parens.plain.Goals as goal

pub returns-in-Err : goal.returns-in-Err
unfolding plain_at phrases
returns-in-Err g c = record { exact = fails_as c.in-Err.stop c.in-Err.ensures.exact (λ f read. rw (sym c.rest_of.ensures, read) refl); low = tt }

pub returns-in-None : goal.returns-in-None
unfolding plain_at phrases
returns-in-None g c = record { exact = rw (sym c.rest_of.ensures, c.in-Ok.ensures.exact, c.in-None.is, sym c.next_spot-at.ensures) c.round.ensures.exact; low = c.round.ensures.low }

pub returns-in-Some : goal.returns-in-Some
unfolding plain_at phrases
returns-in-Some g c =
    let low : c.in-Ok.first.height + 1 ≤ c.args.inner + 1 = omega (arith, c.in-Ok.ensures.low) in
    record { exact = rw (sym c.rest_of.ensures, c.in-Ok.ensures.exact, c.in-Some.is, sym c.next_spot-at.ensures) (c.operand_and_operator.ensures.exact c.args.inner); low = low_as c.operand_and_operator.result c.operand_and_operator.ensures.low low }
