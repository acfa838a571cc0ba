use Rattle.size_slots.specs.Held.{Held}
use Rattle.size_applying.proofs.NotingForms.{So_noted}
use Rattle.size_applying.proofs.noting.note_all.Given as goal

abbrev pub invariant-loop-one : goal.invariant-loop-one
invariant-loop-one l = record { held : Held l.table; far : So_noted l.later l.fn.table l.fn.tables l.table l.tables l.last.seen l.one-index }
