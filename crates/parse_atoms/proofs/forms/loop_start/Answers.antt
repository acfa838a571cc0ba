-- A pattern, and its first value: what stands behind the sign, or the names of the pattern.
use Rattle.std.proofs.Common.{◌≤◌, sym, ◌∙◌, refl, arith}
use Rattle.fut_grammar.specs.Phrases.{phrases}
use Rattle.fut_grammar.specs.Reading.{start_at}
use Rattle.parse_types.proofs.ReadLaws.{fails_as}
use Rattle.parse_atoms.proofs.forms.loop_start.Goals as goal

pub returns-in-Err : goal.returns-in-Err
unfolding start_at phrases
returns-in-Err g c = record { exact = fails_as c.in-Err.stop c.in-Err.ensures.exact (λ f read. rw read refl); low = tt }

pub returns-in-Ok-read : goal.returns-in-Ok-read
unfolding start_at phrases
returns-in-Ok-read g c =
    let low : c.greater.result ≤ c.args.inner = omega (arith, c.greater.ensures, c.greater-height.ensures, c.in-Ok.ensures.low, c.in-Ok-read.ensures.low, c.requires.room.1) in
    record { exact = rw (c.in-Ok.ensures.exact, sym c.starts_with.ensures ∙ c.if-starts_with.true, sym c.rest_of.ensures, c.in-Ok-read.ensures.exact, sym c.greater-height.ensures, sym c.greater.ensures) refl; low = low }

pub returns-in-Err-read : goal.returns-in-Err-read
unfolding start_at phrases
returns-in-Err-read g c = record { exact = fails_as c.in-Err-read.stop c.in-Err-read.ensures.exact (λ f read. rw (c.in-Ok.ensures.exact, sym c.starts_with.ensures ∙ c.if-starts_with.true, sym c.rest_of.ensures, read) refl); low = tt }

pub returns-then-has_wildcard : goal.returns-then-has_wildcard
unfolding start_at phrases
returns-then-has_wildcard g c = record { exact = rw (c.in-Ok.ensures.exact, sym c.starts_with.ensures ∙ c.if-starts_with.false, sym c.has_wildcard.ensures ∙ c.if-has_wildcard.true, c.refused.ensures) refl; low = tt }

pub returns-in-Ok-exp_of_pattern : goal.returns-in-Ok-exp_of_pattern
unfolding start_at phrases
returns-in-Ok-exp_of_pattern g c =
    let low : c.greater-height.result ≤ c.args.inner = omega (arith, c.greater-height.ensures, c.in-Ok.ensures.low, c.requires.room.1) in
    record { exact = rw (c.in-Ok.ensures.exact, sym c.starts_with.ensures ∙ c.if-starts_with.false, sym c.has_wildcard.ensures ∙ c.if-has_wildcard.false, sym c.in-Ok-exp_of_pattern.ensures, sym c.greater-height.ensures) refl; low = low }
