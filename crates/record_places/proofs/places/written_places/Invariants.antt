use Rattle.record_places.proofs.PlaceForms.{Noted}
use Rattle.record_places.proofs.places.written_places.Given as goal

abbrev pub invariant-loop-at : goal.invariant-loop-at
invariant-loop-at l = Noted l.names l.number l.fields l.places.items l.at

abbrev pub decreases-loop-at : goal.decreases-loop-at
decreases-loop-at l = l.at
