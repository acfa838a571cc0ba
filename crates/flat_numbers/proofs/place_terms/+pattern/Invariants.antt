use Rattle.std.proofs.Common.{take}
use Rattle.std.specs.List.{flat_map}
use Rattle.flat_numbers.specs.PlaceNoted.{Noted}
use Rattle.flat_numbers.specs.Places.{field_places, pattern_places}
use Rattle.flat_numbers.proofs.place_terms.+pattern.Given as goal

abbrev pub invariant-note_fields-loop-field : goal.invariant-note_fields-loop-field
invariant-note_fields-loop-field l = Noted l.fn.places l.places (flat_map field_places (take l.field-index l.fields))

abbrev pub invariant-note_patterns-loop-part : goal.invariant-note_patterns-loop-part
invariant-note_patterns-loop-part l = Noted l.fn.places l.places (flat_map pattern_places (take l.part-index l.parts))
