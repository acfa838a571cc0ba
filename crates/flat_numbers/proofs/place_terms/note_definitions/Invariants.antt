use Rattle.std.proofs.Common.{take}
use Rattle.std.specs.List.{flat_map}
use Rattle.flat_numbers.specs.PlaceNoted.{Noted}
use Rattle.flat_numbers.specs.Places.{definition_places}
use Rattle.flat_numbers.proofs.place_terms.note_definitions.Given as goal

abbrev pub invariant-loop-definition : goal.invariant-loop-definition
invariant-loop-definition l = Noted l.fn.places l.places (flat_map definition_places (take l.definition-index l.definitions))
