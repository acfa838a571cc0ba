use Rattle.std.proofs.Common.{take}
use Rattle.std.specs.List.{flat_map}
use Rattle.flat_numbers.specs.Noted.{Noted}
use Rattle.flat_numbers.specs.Trees.{field_homes, pattern_homes}
use Rattle.flat_numbers.proofs.home_terms.+pattern.Given as goal

abbrev pub invariant-note_fields-loop-field : goal.invariant-note_fields-loop-field
invariant-note_fields-loop-field l = Noted l.fn.homes l.homes (flat_map (field_homes l.home) (take l.field-index l.fields))

abbrev pub invariant-note_patterns-loop-part : goal.invariant-note_patterns-loop-part
invariant-note_patterns-loop-part l = Noted l.fn.homes l.homes (flat_map (pattern_homes l.home) (take l.part-index l.parts))
