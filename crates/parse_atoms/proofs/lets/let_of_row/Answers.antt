-- The let, and what stands behind it.
use Rattle.std.proofs.Common.{refl}
use Rattle.parse_types.proofs.ReadLaws.{fails_as}
use Rattle.parse_atoms.specs.Parts.{let_of_row}
use Rattle.parse_atoms.proofs.lets.let_of_row.Goals as goal

pub returns-in-Err : goal.returns-in-Err
unfolding let_of_row
returns-in-Err g c = record { exact = fails_as c.in-Err.stop c.in-Err.ensures.exact (λ f read. rw read refl); low = tt }

pub returns-in-Err-behind_let : goal.returns-in-Err-behind_let
unfolding let_of_row
returns-in-Err-behind_let g c = record { exact = fails_as c.in-Err-behind_let.stop c.in-Err-behind_let.ensures (λ f read. rw (c.in-Ok.ensures.exact, read) refl); low = tt }

pub returns-in-Ok-behind_let : goal.returns-in-Ok-behind_let
unfolding let_of_row
returns-in-Ok-behind_let g c = record { exact = rw (c.in-Ok.ensures.exact, c.in-Ok-behind_let.ensures) refl; low = c.in-Ok.ensures.low }
