use Rattle.module_definitions.proofs.Definitions.{definition_went}
use Rattle.module_definitions.proofs.definition.resolved_definition.Goals as goal

pub returns : goal.returns
returns c = definition_went _ _ _ _ _ _ _ _ _ _ _ _ _ _ _ c.numbered-bind.ensures.numbers c.height-height.ensures c.brought_heads-heads.ensures c.written_value-value.ensures c.leave.ensures.scope c.leave.ensures.made c.joined.ensures
