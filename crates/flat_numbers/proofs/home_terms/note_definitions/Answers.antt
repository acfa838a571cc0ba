use Rattle.flat_numbers.specs.Trees.{definition_homes}
use Rattle.flat_numbers.proofs.Lists.{all_looped, looped, none_yet, then, told_as}
use Rattle.flat_numbers.proofs.Layers.{definition_is}
use Rattle.flat_numbers.proofs.home_terms.note_definitions.Goals as goal

pub loop-definition-init : goal.loop-definition-init
loop-definition-init c = none_yet _

pub loop-definition-preserved : goal.loop-definition-preserved
loop-definition-preserved c = looped definition_homes _ c.loop-definition.definition-index _ c.loop-definition-test.true c.loop-definition.invariant (told_as (definition_is _ _ c.innermost_written-written.ensures) (then c.push.ensures c.note_exp.ensures))

pub returns : goal.returns
returns c = all_looped definition_homes _ _ c.loop-definition-test.false c.loop-definition.invariant
