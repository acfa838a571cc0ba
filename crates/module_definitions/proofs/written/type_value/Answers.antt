use Rattle.module_definitions.proofs.Values.{type_valued}
use Rattle.module_definitions.proofs.written.type_value.Goals as goal

pub returns : goal.returns
returns c = type_valued _ _ _ _ _ _ c.resolved_type.ensures.went c.type_node.ensures
