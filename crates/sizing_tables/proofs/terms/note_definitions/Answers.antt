use Rattle.sizing_tables.specs.Trees.{definition_names, definition_sizes}
use Rattle.sizing_tables.proofs.Lists.{all_looped, looped, none_yet, then, told_as}
use Rattle.sizing_tables.proofs.Layers.{definition_names_are, definition_sizes_are}
use Rattle.sizing_tables.proofs.terms.note_definitions.Goals as goal

pub loop-definition-init : goal.loop-definition-init
loop-definition-init c = none_yet _

pub loop-definition-preserved : goal.loop-definition-preserved
loop-definition-preserved c = looped definition_names definition_sizes _ c.loop-definition.definition-index _ c.loop-definition-test.true c.loop-definition.invariant (told_as (definition_names_are _) (definition_sizes_are _) (then (then c.node.ensures c.note_heads.ensures) c.note_exp.ensures))

pub returns : goal.returns
returns c = all_looped definition_names definition_sizes _ _ c.loop-definition-test.false c.loop-definition.invariant
