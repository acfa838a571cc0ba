-- A part begins here, and nothing goes on with it.
use Rattle.std.proofs.Common.{sym, ◌∙◌, refl}
use Rattle.parse_types.proofs.ReadLaws.{fails_as}
use Rattle.parse_atoms.specs.Parts.{part_at}
use Rattle.parse_atoms.proofs.indices.part.Goals as goal

pub returns-then-not-begins_part : goal.returns-then-not-begins_part
unfolding part_at
returns-then-not-begins_part g c = record { exact = rw (sym c.begins_part.ensures.begun ∙ c.if-not-begins_part.true, c.refused.ensures) refl; low = tt }

pub returns-in-Err : goal.returns-in-Err
unfolding part_at
returns-in-Err g c = record { exact = fails_as c.in-Err.stop c.in-Err.ensures.exact (λ f read. rw (sym c.begins_part.ensures.begun ∙ c.if-not-begins_part.false, read) refl); low = tt }

pub returns-then-begins_part : goal.returns-then-begins_part
unfolding part_at
returns-then-begins_part g c = record { exact = rw (sym c.begins_part.ensures.begun ∙ c.if-not-begins_part.false, c.in-Ok.ensures.exact, sym c.begins_part-2.ensures.goes_on ∙ c.if-begins_part.true, c.refused-then-begins_part.ensures) refl; low = tt }

pub returns : goal.returns
unfolding part_at
returns g c = record { exact = rw (sym c.begins_part.ensures.begun ∙ c.if-not-begins_part.false, c.in-Ok.ensures.exact, sym c.begins_part-2.ensures.goes_on ∙ c.if-begins_part.false) refl; low = c.in-Ok.ensures.low }
