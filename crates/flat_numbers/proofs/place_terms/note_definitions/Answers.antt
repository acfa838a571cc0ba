use Rattle.flat_numbers.specs.Places.{definition_places}
use Rattle.flat_numbers.proofs.PlaceLists.{all_looped, looped, none_yet, then, told_as}
use Rattle.flat_numbers.proofs.PlaceLayers.{definition_is}
use Rattle.flat_numbers.proofs.place_terms.note_definitions.Goals as goal

pub loop-definition-init : goal.loop-definition-init
loop-definition-init c = none_yet _

pub loop-definition-preserved : goal.loop-definition-preserved
loop-definition-preserved c = looped definition_places _ c.loop-definition.definition-index _ c.loop-definition-test.true c.loop-definition.invariant (told_as (definition_is _) (then c.push.ensures c.note_exp.ensures))

pub returns : goal.returns
returns c = all_looped definition_places _ _ c.loop-definition-test.false c.loop-definition.invariant
