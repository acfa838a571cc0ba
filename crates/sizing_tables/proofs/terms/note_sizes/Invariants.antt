use Rattle.std.proofs.Common.{[], take}
use Rattle.sizing_tables.specs.Bound.{bind_numbers}
use Rattle.sizing_tables.specs.Noted.{Noted}
use Rattle.sizing_tables.proofs.terms.note_sizes.Given as goal

abbrev pub invariant-loop-size : goal.invariant-loop-size
invariant-loop-size l = Noted l.fn.noting l.noting [] (bind_numbers (take l.size-index l.sizes))
