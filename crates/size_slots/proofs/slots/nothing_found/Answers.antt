use Rattle.std.proofs.Common.{refl}
use Rattle.size_slots.proofs.HeldLaws.{nothing_held}
use Rattle.size_slots.proofs.slots.nothing_found.Goals as goal

pub returns : goal.returns
returns c = nothing_held record { slots = c.new.result; chosen = c.new-2.result; next = 0; makers = c.new-3.result } c.new.ensures c.new-2.ensures refl c.new-3.ensures
