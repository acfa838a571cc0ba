use Rattle.std.proofs.Common.{replicate}
use Rattle.flat_numbers.specs.PlaceNoted.{Noted}
use Rattle.flat_numbers.proofs.place_terms.note.Given as goal

abbrev pub invariant-loop : goal.invariant-loop
invariant-loop l = Noted l.fn.places l.places (replicate l.counter l.at)
