use Rattle.std.proofs.Common.{[], take}
use Rattle.std.specs.List.{flat_map}
use Rattle.sizing_tables.specs.Noted.{Noted}
use Rattle.sizing_tables.specs.Trees.{field_names, tree_names}
use Rattle.sizing_tables.proofs.terms.+pattern.Given as goal

abbrev pub invariant-note_fields-loop-field : goal.invariant-note_fields-loop-field
invariant-note_fields-loop-field l = Noted l.fn.noting l.noting (flat_map field_names (take l.field-index l.fields)) []

abbrev pub invariant-note_patterns-loop-part : goal.invariant-note_patterns-loop-part
invariant-note_patterns-loop-part l = Noted l.fn.noting l.noting (flat_map tree_names (take l.part-index l.parts)) []
