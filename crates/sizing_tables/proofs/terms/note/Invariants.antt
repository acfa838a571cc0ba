use Rattle.std.proofs.Common.{[], None, replicate}
use Rattle.sizing_tables.specs.Noted.{Noted}
use Rattle.sizing_tables.proofs.terms.note.Given as goal

abbrev pub invariant-loop : goal.invariant-loop
invariant-loop l = Noted l.fn.noting l.noting (replicate l.counter None) []
