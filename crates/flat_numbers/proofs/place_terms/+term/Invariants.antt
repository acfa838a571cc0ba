use Rattle.std.proofs.Common.{take}
use Rattle.std.specs.List.{flat_map}
use Rattle.flat_numbers.specs.PlaceNoted.{Noted}
use Rattle.flat_numbers.specs.Places.{exp_places, let_places}
use Rattle.flat_numbers.proofs.place_terms.+term.Given as goal

abbrev pub invariant-note_parts-loop-part : goal.invariant-note_parts-loop-part
invariant-note_parts-loop-part l = Noted l.fn.places l.places (flat_map exp_places (take l.part-index l.parts))

abbrev pub invariant-note_lets-loop-one : goal.invariant-note_lets-loop-one
invariant-note_lets-loop-one l = Noted l.fn.places l.places (flat_map (let_places l.at) (take l.one-index l.lets))
