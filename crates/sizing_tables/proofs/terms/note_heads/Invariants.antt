use Rattle.std.proofs.Common.{[], take}
use Rattle.fut_flat.specs.Erased.{parameters}
use Rattle.sizing_tables.specs.Bound.{size_numbers}
use Rattle.sizing_tables.specs.Noted.{Noted}
use Rattle.sizing_tables.proofs.terms.note_heads.Given as goal

abbrev pub invariant-loop-head : goal.invariant-loop-head
invariant-loop-head l = Noted l.fn.noting l.noting [] (size_numbers (parameters (take l.head-index l.heads)))
