use Rattle.std.proofs.Common.{take}
use Rattle.std.specs.List.{flat_map}
use Rattle.sizing_tables.specs.Noted.{Noted}
use Rattle.sizing_tables.specs.Trees.{definition_names, definition_sizes}
use Rattle.sizing_tables.proofs.terms.note_definitions.Given as goal

abbrev pub invariant-loop-definition : goal.invariant-loop-definition
invariant-loop-definition l = Noted l.fn.noting l.noting (flat_map definition_names (take l.definition-index l.definitions)) (flat_map definition_sizes (take l.definition-index l.definitions))
