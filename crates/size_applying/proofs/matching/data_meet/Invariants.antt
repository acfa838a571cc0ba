use Rattle.size_slots.specs.Held.{Held}
use Rattle.size_applying.proofs.MatchingForms.{So_met}
use Rattle.size_applying.proofs.matching.data_meet.Given as goal

abbrev pub invariant-loop-wanting : goal.invariant-loop-wanting
invariant-loop-wanting l = record { held : Held l.table; far : So_met l.fn.table l.wantings l.table l.wanting-index }
