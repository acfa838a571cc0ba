use Rattle.size_applying.proofs.GoingForms.{Any_chained, So_used}
use Rattle.size_applying.proofs.going.uses_later.Given as goal

abbrev pub invariant-loop-wanting : goal.invariant-loop-wanting
invariant-loop-wanting l = record { used : So_used l.wantings l.fn.later l.later l.wanting-index; chained : Any_chained l.fn.later l.later }
