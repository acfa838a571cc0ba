use Rattle.flat_numbers.proofs.PlaceLists.{none_yet, one_again}
use Rattle.flat_numbers.proofs.place_terms.note.Goals as goal

pub loop-init : goal.loop-init
loop-init c = none_yet _

pub loop-preserved : goal.loop-preserved
loop-preserved c = one_again _ _ c.loop.invariant c.push.ensures
