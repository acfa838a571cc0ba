use Rattle.size_slots.specs.Held.{Held}
use Rattle.size_settling.proofs.SettleForms.{So_far}
use Rattle.size_settling.proofs.settling.+settled.Given as goal

abbrev pub invariant-settle_parts-loop-part : goal.invariant-settle_parts-loop-part
invariant-settle_parts-loop-part l = record { held : Held l.table; far : So_far l.fn.table l.parts l.table l.part-index }
