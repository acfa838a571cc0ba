use Rattle.type_infer.specs.Reading.{Generally}
use Rattle.typed_programs.proofs.EntryTypes.{Row_begins}
use Rattle.typed_programs.proofs.entries.row_of.Given as goal

abbrev pub invariant-loop-at : goal.invariant-loop-at
invariant-loop-at l = Row_begins (Generally l.inference.nodes) l.first l.count l.at l.types
