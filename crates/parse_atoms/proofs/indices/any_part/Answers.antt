-- A reversal, or what is written before and behind the colon.
use Rattle.std.proofs.Common.{sym, ◌∙◌, refl, arith}
use Rattle.parse_types.proofs.ReadLaws.{fails_as}
use Rattle.parse_atoms.specs.Parts.{any_part_at}
use Rattle.parse_atoms.proofs.indices.any_part.Goals as goal

pub returns-in-Ok : goal.returns-in-Ok
unfolding any_part_at
returns-in-Ok g c = record { exact = rw (sym c.begins_reversal.ensures ∙ c.if-begins_reversal.true, c.in-Ok.ensures, sym c.next_spot-at.ensures) refl; low = omega arith }

pub returns-in-Err : goal.returns-in-Err
unfolding any_part_at
returns-in-Err g c = record { exact = fails_as c.in-Err.stop c.in-Err.ensures (λ f read. rw (sym c.begins_reversal.ensures ∙ c.if-begins_reversal.true, read) refl); low = tt }

pub returns-in-Err-optional : goal.returns-in-Err-optional
unfolding any_part_at
returns-in-Err-optional g c = record { exact = fails_as c.in-Err-optional.stop c.in-Err-optional.ensures.exact (λ f read. rw (sym c.begins_reversal.ensures ∙ c.if-begins_reversal.false, read) refl); low = tt }

pub returns-in-Err-up_to : goal.returns-in-Err-up_to
unfolding any_part_at
returns-in-Err-up_to g c = record { exact = fails_as c.in-Err-up_to.stop c.in-Err-up_to.ensures.exact (λ f read. rw (sym c.begins_reversal.ensures ∙ c.if-begins_reversal.false, c.in-Ok-optional.ensures.exact, read) refl); low = tt }

pub returns-in-Ok-without_form : goal.returns-in-Ok-without_form
unfolding any_part_at
returns-in-Ok-without_form g c = record { exact = rw (sym c.begins_reversal.ensures ∙ c.if-begins_reversal.false, c.in-Ok-optional.ensures.exact, c.in-Ok-up_to.ensures.exact, c.in-Ok-without_form.ensures, sym c.next_spot-at.ensures) refl; low = c.in-Ok-up_to.ensures.low }

pub returns-in-Err-without_form : goal.returns-in-Err-without_form
unfolding any_part_at
returns-in-Err-without_form g c = record { exact = fails_as c.in-Err-without_form.stop c.in-Err-without_form.ensures (λ f read. rw (sym c.begins_reversal.ensures ∙ c.if-begins_reversal.false, c.in-Ok-optional.ensures.exact, c.in-Ok-up_to.ensures.exact, read) refl); low = tt }
