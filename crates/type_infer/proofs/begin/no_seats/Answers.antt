use Rattle.std.proofs.Common.{sym, subst, arith}
use Rattle.type_scopes.specs.Table.{IsSeated}
use Rattle.type_infer.proofs.Tables.{no_seat_none, no_seat_more}
use Rattle.type_infer.proofs.begin.no_seats.Goals as goal

pub loop-at-init : goal.loop-at-init
loop-at-init c = record { within = omega arith; none = subst (λ seats. (n : _) → IsSeated seats n → ⊥) (sym c.new-seats.ensures) no_seat_none }

pub loop-at-preserved : goal.loop-at-preserved
loop-at-preserved c = record { within = omega (arith, c.loop-at-test.true); none = subst (λ seats. (n : _) → IsSeated seats n → ⊥) (sym c.in-Ok.ensures.ok) (no_seat_more c.loop-at.seats 0 c.loop-at.invariant.none) }
